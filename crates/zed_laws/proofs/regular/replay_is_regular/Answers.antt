use Rattle.zed_laws.proofs.IntegerSteps.{replay_kept}
use Rattle.zed_laws.proofs.RegularSteps.{replay_regular}
use Rattle.zed_laws.proofs.regular.replay_is_regular.Goals as goal

pub returns : goal.returns
returns c = record { regular = replay_regular c.read_is_normal.ensures; integers = replay_kept c.read_is_normal.ensures }
