use Rattle.zed_laws.specs.Fields.{header_number, key, saved, current_board, world_name, flag}
use Rattle.zed_laws.specs.Winners.{of_header}
use Rattle.zed_sides.proofs.Overriding.{overridden_by_both}
use Rattle.zed_sides.proofs.laws.overridden_header.Goals as goal

pub returns-clause-numbers : goal.returns-clause-numbers
returns-clause-numbers c f = overridden_by_both (of_header (header_number f)) (c.greatest_stamp_wins_the_header.ensures.numbers f)

pub returns-clause-keys : goal.returns-clause-keys
returns-clause-keys c k = overridden_by_both (of_header (key k)) (c.greatest_stamp_wins_the_header.ensures.keys k)

pub returns-clause-saved : goal.returns-clause-saved
returns-clause-saved c = overridden_by_both (of_header saved) c.greatest_stamp_wins_the_header.ensures.saved

pub returns-clause-current_board : goal.returns-clause-current_board
returns-clause-current_board c = overridden_by_both (of_header current_board) c.greatest_stamp_wins_the_header.ensures.current_board

pub returns-clause-world_name : goal.returns-clause-world_name
returns-clause-world_name c = overridden_by_both (of_header world_name) c.greatest_stamp_wins_the_header.ensures.world_name

pub returns-clause-flags : goal.returns-clause-flags
returns-clause-flags c k = overridden_by_both (of_header (flag k)) (c.greatest_stamp_wins_the_header.ensures.flags k)
