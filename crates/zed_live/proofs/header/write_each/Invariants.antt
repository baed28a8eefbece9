use Rattle.std.proofs.Common.{◌≡◌, take}
use Rattle.zed_live.specs.Header.{write_each}
use Rattle.zed_live.proofs.header.write_each.Given as goal

abbrev pub invariant-loop-i : goal.invariant-loop-i
invariant-loop-i g l = l.slots ≡ write_each l.stamp (take l.i l.values) l.initial.slots
