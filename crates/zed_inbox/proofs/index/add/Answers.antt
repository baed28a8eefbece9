use Rattle.zed_inbox.proofs.Order.{thing_cmp, things, listed_with}
use Rattle.zed_inbox.proofs.index.add.Goals as goal

pub returns-in-Ok-clause-ok : goal.returns-in-Ok-clause-ok
returns-in-Ok-clause-ok c =
    listed_with thing_cmp things c.args.thing c.args.stamp c.args.waits.now.keys c.insert.new.self.keys c.in-Ok.ensures.updates.0
