use Rattle.std.proofs.Common.{length}
use Rattle.zed_delivery.proofs.Stirring.{stirs_released}
use Rattle.zed_delivery.proofs.Waking.{released_in_hand, is_woken}
use Rattle.zed_delivery.proofs.body.Body.wake_one.Goals as goal

pub retry_all-requires : goal.retry_all-requires
retry_all-requires c =
    released_in_hand c.args.thing c.in_ok-edits.edits.items c.args.done.now.items c.args.self.now c.release.new.self c.requires c.in_ok-edits.ensures.ok

pub returns-clause-ok : goal.returns-clause-ok
returns-clause-ok c =
    is_woken c.args.thing c.in_ok-edits.edits.items c.args.done.now.items c.retry_all.new.done.items c.args.self.now c.release.new.self c.retry_all.new.self c.in_ok-edits.ensures.ok c.in_ok-retry_all.ensures.ok

pub returns-clause-visits : goal.returns-clause-visits
returns-clause-visits c =
    stirs_released (length c.in_ok-edits.edits.items) c.args.self.now c.release.new.self c.retry_all.new.self c.release.ensures.texts c.in_ok-edits.ensures.few c.in_ok-retry_all.ensures.visits
