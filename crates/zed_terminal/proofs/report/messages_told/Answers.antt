use Rattle.std.proofs.Common.{◌∙◌}
use Rattle.zed_terminal.proofs.Messages.{told_more}
use Rattle.zed_terminal.proofs.report.messages_told.Goals as goal

pub loop-index-preserved : goal.loop-index-preserved
loop-index-preserved c = record {
  text = rw c.in_ok-put_message.ensures (told_more c.args.messages.now c.loop-index.index c.message_at.result.now c.loop-index.text.items c.message_at.ensures) ∙ c.loop-index.invariant.text;
}
