use Rattle.std.proofs.Common.{◌≡◌, ◌++◌, drop}
use Rattle.zed_undo.specs.Leaving.{left_by}
use Rattle.zed_undo.proofs.leaving.edits_left.Given as goal

-- the copies so far, with what is left of the rest, are all that is left
abbrev pub invariant-loop-edit : goal.invariant-loop-edit
invariant-loop-edit l = l.copies.items ++ left_by l.rest (drop l.edit-index l.edits) ≡ left_by l.marks l.edits
