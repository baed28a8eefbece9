use Rattle.std.proofs.Common.{◌≡◌}
use Rattle.zed_lint.specs.Labels.{is_in_commands}
use Rattle.zed_lint.proofs.labels.is_in_commands.Given as goal

abbrev pub invariant-loop-start : goal.invariant-loop-start
invariant-loop-start l = is_in_commands l.program l.start ≡ is_in_commands l.program l.at

abbrev pub decreases-loop-start : goal.decreases-loop-start
decreases-loop-start l = l.start
