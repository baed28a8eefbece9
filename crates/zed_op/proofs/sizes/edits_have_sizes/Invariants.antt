use Rattle.std.proofs.Common.{take}
use Rattle.zed_op.specs.Sizes.{HaveSizes}
use Rattle.zed_op.proofs.sizes.edits_have_sizes.Given as goal

abbrev pub invariant-loop-edit : goal.invariant-loop-edit
invariant-loop-edit l = HaveSizes (take l.edit-index l.edits)
