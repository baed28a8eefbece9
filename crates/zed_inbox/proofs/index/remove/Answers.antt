use Rattle.zed_inbox.proofs.Order.{thing_cmp, things, listed_without}
use Rattle.zed_inbox.proofs.index.remove.Goals as goal

pub returns : goal.returns
returns c =
    listed_without thing_cmp things c.args.thing c.args.stamp c.args.waits.now.keys c.remove.new.self.keys c.remove.ensures.updates.0
