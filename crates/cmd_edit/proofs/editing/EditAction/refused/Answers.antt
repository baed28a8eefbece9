use Rattle.std.proofs.Common.{sym}
use Rattle.cmd_edit.proofs.Opened.{some_author}
use Rattle.cmd_edit.proofs.editing.EditAction.refused.Goals as goal

pub returns-else-self-eq0 : goal.returns-else-self-eq0
returns-else-self-eq0 c = sym (some_author c.args.self.now.replica c.if-self-eq0.false)
