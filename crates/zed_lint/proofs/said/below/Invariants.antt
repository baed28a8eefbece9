use Rattle.std.proofs.Common.{◌≡◌, length}
use Rattle.zed_lint.specs.Said.{below}
use Rattle.zed_lint.proofs.said.below.Given as goal

abbrev pub invariant-loop-left : goal.invariant-loop-left
invariant-loop-left l = below l.program l.left l.line ≡ below l.program (length l.program) l.at

abbrev pub decreases-loop-left : goal.decreases-loop-left
decreases-loop-left l = l.left
