use Rattle.zed_scene.proofs.Following.{others_are_followed as stay_the_same}
use Rattle.zed_scene.proofs.laws.others_are_followed.Goals as goal

pub returns : goal.returns
returns c = record { result = stay_the_same }
