use Rattle.std.proofs.Common.{length, sym, rules, arith}
use Rattle.zed_lint.specs.Labels.{has_label, is_label}
use Rattle.zed_lint.proofs.Below.{found_below}
use Rattle.zed_lint.proofs.labels.has_label.Goals as goal

pub returns-then-is_label : goal.returns-then-is_label
unfolding has_label
returns-then-is_label c =
    sym (found_below (is_label c.args.program.now c.args.label.now) (length c.args.program.now) c.loop-at.at (omega arith) (search rules))
