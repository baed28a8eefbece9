use Rattle.std.proofs.Common.{◌∙◌}
use Rattle.zed_terminal.proofs.Rows.{told_more}
use Rattle.zed_terminal.proofs.stage.put_messages.Goals as goal

pub loop-index-preserved : goal.loop-index-preserved
loop-index-preserved c =
    told_more c.args.columns c.args.messages.now c.loop-index.index c.message_at.result.now c.loop-index.out.items c.put_message.new.out.items c.message_at.ensures c.in_ok-put_message.ensures
    ∙ c.loop-index.invariant
