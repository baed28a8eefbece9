use Rattle.zed_join.proofs.Edits.{one_looked}
use Rattle.zed_join.proofs.sides.common_edits.Goals as goal

pub loop-edit-preserved : goal.loop-edit-preserved
loop-edit-preserved c =
    one_looked c.args.edits.now c.args.others.now c.loop-edit.edit-index c.edit-item.result c.loop-edit.copies.items c.push_common.new.copies.items _
    c.loop-edit-test.true c.edit-item.is c.loop-edit.invariant c.in_ok-push_common.ensures
