use Rattle.std.proofs.Common.{take}
use Rattle.zed_op.specs.Set.{AllFit}
use Rattle.zed_take.proofs.checking.check_fit.Given as goal

abbrev pub invariant-loop-edit : goal.invariant-loop-edit
invariant-loop-edit l = AllFit (take l.edit-index l.edits)
