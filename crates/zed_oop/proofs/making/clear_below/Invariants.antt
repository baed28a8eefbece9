use Rattle.std.proofs.Common.{◌≡◌}
use Rattle.zed_oop.specs.Making.{cleared_below}
use Rattle.zed_oop.proofs.making.clear_below.Given as goal

abbrev pub invariant-loop-i : goal.invariant-loop-i
invariant-loop-i l = cleared_below l.i l.place l.scene ≡ cleared_below l.n l.place l.fn.scene

abbrev pub decreases-loop-i : goal.decreases-loop-i
decreases-loop-i l = l.i
