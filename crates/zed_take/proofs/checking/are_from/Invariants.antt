use Rattle.std.proofs.Common.{drop}
use Rattle.zed_take.specs.Taken.{AreFrom}
use Rattle.zed_take.proofs.checking.are_from.Given as goal

abbrev pub invariant-loop-edit : goal.invariant-loop-edit
invariant-loop-edit l = AreFrom l.stamp (drop l.edit-index l.edits) → AreFrom l.fn.first l.edits
