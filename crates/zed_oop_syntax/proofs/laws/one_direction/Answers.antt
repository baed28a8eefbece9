use Rattle.zed_oop_syntax.proofs.OneDirection.{direction_one, direction_there}
use Rattle.zed_oop_syntax.proofs.laws.one_direction.Goals as goal

pub returns : goal.returns
returns c = record { stands = direction_there; alone = direction_one }
