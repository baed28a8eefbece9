use Rattle.std.proofs.Common.{◌≡◌, None, slice_get}
use Rattle.zed_oop_syntax.specs.Label.{least}
use Rattle.zed_oop.specs.Making.{has_name}
use Rattle.zed_oop.proofs.making.named.Given as goal

abbrev pub invariant-loop-i : goal.invariant-loop-i
invariant-loop-i l = least (λ i. has_name l.scene l.name i (slice_get l.scene.stats i)) l.i ≡ None
