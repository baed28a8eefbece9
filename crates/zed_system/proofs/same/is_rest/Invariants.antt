use Rattle.std.proofs.Common.{length}
use Rattle.zed_system.specs.Same.{MayEnd}
use Rattle.zed_system.proofs.same.is_rest.Given as goal

-- what was read so far is the front of the bytes
abbrev pub invariant-loop-left : goal.invariant-loop-left
invariant-loop-left g l = MayEnd (g.R.Read.remaining l.fn.reader) (g.R.Read.remaining l.reader) l.left l.fn.bytes

abbrev pub decreases-loop-left : goal.decreases-loop-left
decreases-loop-left g l = length l.left
