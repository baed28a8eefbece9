use Rattle.std.proofs.Common.{◌≡◌}
use Rattle.zed_oop.specs.Sending.{for_each}
use Rattle.zed_oop.specs.Making.{changed_tile}
use Rattle.zed_oop.proofs.making.convert_to.Given as goal

abbrev pub invariant-loop-k : goal.invariant-loop-k
invariant-loop-k l = l.scene ≡ for_each (changed_tile l.first l.second) l.k l.fn.scene
