use Rattle.std.proofs.Common.{take}
use Rattle.zed_op.specs.Set.{AllFit}
use Rattle.zed_undo.proofs.undoing.check_fit.Given as goal

-- those so far fit
abbrev pub invariant-loop-edit : goal.invariant-loop-edit
invariant-loop-edit l = AllFit (take l.edit-index l.edits)
