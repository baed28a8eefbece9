use Rattle.zed_laws.proofs.NamesInOrder.{replay_ordered}
use Rattle.zed_laws.proofs.order.replay_is_ordered.Goals as goal

pub returns : goal.returns
returns c = replay_ordered
