use Rattle.zed_history.proofs.Walks.{rising-drop}
use Rattle.zed_history.proofs.Clashing.{from-there}
use Rattle.zed_history.proofs.two_logs.from_stamp.Goals as goal

pub returns-clause-rising : goal.returns-clause-rising
returns-clause-rising c = rw c.split_at.ensures.back (rising-drop c.args.log.now c.count_before.result c.requires)

pub returns-clause-there : goal.returns-clause-there
returns-clause-there c = λ s n. from-there s c.args.stamp c.args.log.now c.split_at.result.1.now c.count_before.result n c.count_before.ensures.below c.split_at.ensures.back
