use Rattle.std.proofs.Common.{◌≡◌}
use Rattle.zed_lint.specs.Said.{above}
use Rattle.zed_lint.proofs.said.above.Given as goal

abbrev pub invariant-loop-line : goal.invariant-loop-line
invariant-loop-line l = above l.program l.line ≡ above l.program l.at

abbrev pub decreases-loop-line : goal.decreases-loop-line
decreases-loop-line l = l.line
