use Rattle.zed_action.proofs.Calls.{author_left, was_done}
use Rattle.cmd_set.proofs.performing.author.Goals as goal

pub returns-clause-left : goal.returns-clause-left
returns-clause-left c = author_left c.args.document.now c.args.replica c.args.op _ (was_done _ _ _ c.in_ok-author.ensures.result)
