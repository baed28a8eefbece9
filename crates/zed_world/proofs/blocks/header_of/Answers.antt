use Rattle.std.proofs.Common.{arith}
use Rattle.std.proofs.lemmas.Int.{to_z-of_z}
use Rattle.zed_world.specs.Offsets.{header_at}
use Rattle.zed_world.proofs.blocks.header_of.Goals as goal

pub returns : goal.returns
unfolding header_at
returns c = grind (arith, to_z-of_z)
