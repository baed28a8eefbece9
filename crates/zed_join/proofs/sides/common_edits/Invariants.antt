use Rattle.std.proofs.Common.{◌≡◌, ◌++◌, drop}
use Rattle.zed_sides.specs.Sides.{common}
use Rattle.zed_join.proofs.sides.common_edits.Given as goal

-- the copies by now, with those of the rest, are all
abbrev pub invariant-loop-edit : goal.invariant-loop-edit
invariant-loop-edit l = l.copies.items ++ common (drop l.edit-index l.edits) l.others ≡ common l.edits l.others
