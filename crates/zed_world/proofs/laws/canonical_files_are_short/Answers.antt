use Rattle.zed_world.proofs.Lengths.{canonical_length}
use Rattle.zed_world.proofs.laws.canonical_files_are_short.Goals as goal

pub returns : goal.returns
returns c = canonical_length
