use Rattle.zed_world.proofs.Rewritten.{canonical_tested}
use Rattle.zed_world.proofs.laws.canonical_files_are_tested.Goals as goal

pub returns : goal.returns
returns c = canonical_tested
