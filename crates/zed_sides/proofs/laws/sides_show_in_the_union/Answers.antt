use Rattle.zed_sides.proofs.Overriding.{overridden_by_both, union_shows_a_side}
use Rattle.zed_sides.proofs.laws.sides_show_in_the_union.Goals as goal

pub returns-clause-shown : goal.returns-clause-shown
returns-clause-shown g c r wins = union_shows_a_side r wins

pub returns-clause-both : goal.returns-clause-both
returns-clause-both g c r wins = overridden_by_both r wins
