use Rattle.zed_laws.specs.Fields.{board_byte, board_flag, time_limit, rank, exit, board_text, cell, board_removed}
use Rattle.zed_laws.specs.Winners.{of_board}
use Rattle.zed_sides.proofs.Overriding.{overridden_by_both}
use Rattle.zed_sides.proofs.laws.overridden_boards.Goals as goal

pub returns-clause-bytes : goal.returns-clause-bytes
returns-clause-bytes c b f = overridden_by_both (of_board b (board_byte f)) (c.greatest_stamp_wins_boards.ensures.bytes b f)

pub returns-clause-flags : goal.returns-clause-flags
returns-clause-flags c b f = overridden_by_both (of_board b (board_flag f)) (c.greatest_stamp_wins_boards.ensures.flags b f)

pub returns-clause-time_limit : goal.returns-clause-time_limit
returns-clause-time_limit c b = overridden_by_both (of_board b time_limit) (c.greatest_stamp_wins_boards.ensures.time_limit b)

pub returns-clause-rank : goal.returns-clause-rank
returns-clause-rank c b = overridden_by_both (of_board b rank) (c.greatest_stamp_wins_boards.ensures.rank b)

pub returns-clause-exits : goal.returns-clause-exits
returns-clause-exits c b f = overridden_by_both (of_board b (exit f)) (c.greatest_stamp_wins_boards.ensures.exits b f)

pub returns-clause-texts : goal.returns-clause-texts
returns-clause-texts c b f = overridden_by_both (of_board b (board_text f)) (c.greatest_stamp_wins_boards.ensures.texts b f)

pub returns-clause-cells : goal.returns-clause-cells
returns-clause-cells c b i h = overridden_by_both (of_board b (cell i)) (c.greatest_stamp_wins_boards.ensures.cells b i h)

pub returns-clause-removed : goal.returns-clause-removed
returns-clause-removed c b = overridden_by_both (of_board b board_removed) (c.greatest_stamp_wins_boards.ensures.removed b)
