use Rattle.zed_laws.proofs.WholeSteps.{replay_whole}
use Rattle.zed_laws.proofs.registers.replay_is_whole.Goals as goal

pub returns : goal.returns
returns c = replay_whole c.read_is_normal.ensures
