use Rattle.std.proofs.Common.{◌≡◌}
use Rattle.zed_world.specs.Offsets.{flags_at}
use Rattle.zed_world.proofs.blocks.flags_of.Given as goal

abbrev pub invariant-loop-n : goal.invariant-loop-n
invariant-loop-n l = l.flags.items ≡ flags_at l.n l.bytes
