use Rattle.std.proofs.Common.{drop}
use Rattle.zed_take.specs.Taken.{AreFrom}
use Rattle.zed_undo.proofs.undoing.check_stamps.Given as goal

-- if the rest follows, all do
abbrev pub invariant-loop-edit : goal.invariant-loop-edit
invariant-loop-edit l = AreFrom l.stamp (drop l.edit-index l.edits) → AreFrom l.fn.first l.edits
