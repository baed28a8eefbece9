use Rattle.zed_scene.proofs.Reach.{push_meets}
use Rattle.zed_scene.proofs.laws.reach_suffices.Goals as goal

pub returns : goal.returns
returns c = record { result = push_meets }
