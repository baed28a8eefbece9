use Rattle.std.proofs.Common.{take}
use Rattle.std.specs.List.{AllByRecursion}
use Rattle.zed_op.specs.Fit.{Fits}
use Rattle.zed_editfile.specs.Stream.{IsRecord}
use Rattle.zed_editfile.proofs.laws.fitting_edits_make_a_file.Given as goal

abbrev pub invariant-loop-edit : goal.invariant-loop-edit
invariant-loop-edit l = AllByRecursion (λ e. Fits e → IsRecord e) (take l.edit-index l.edits)
