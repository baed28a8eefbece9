use Rattle.cmd_edit.proofs.Opened.{is_author}
use Rattle.cmd_edit.proofs.editing.EditAction.act.Goals as goal

pub acted-requires-clause-replica : goal.acted-requires-clause-replica
acted-requires-clause-replica c = is_author c.args.self.now.replica c.requires.wanted
