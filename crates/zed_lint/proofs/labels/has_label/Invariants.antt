use Rattle.std.proofs.Common.{◌≡◌, false}
use Rattle.zed_lint.specs.Labels.{any_below, is_label}
use Rattle.zed_lint.proofs.labels.has_label.Given as goal

abbrev pub invariant-loop-at : goal.invariant-loop-at
invariant-loop-at l = any_below (is_label l.program l.label) l.at ≡ false
