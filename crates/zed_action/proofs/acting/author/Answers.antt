use Rattle.zed_action.proofs.Calls.{author_is, author_left, was_done}
use Rattle.zed_action.proofs.acting.author.Goals as goal

pub returns-clause-made : goal.returns-clause-made
returns-clause-made c =
    author_is c.args.document.now c.args.replica c.args.op c.in_ok-edit.edit (was_done c.in_ok-edit.edit _ _ c.in_ok-edit.ensures.result)

pub returns-clause-left : goal.returns-clause-left
returns-clause-left c =
    author_left c.args.document.now c.args.replica c.args.op c.in_ok-edit.edit (was_done c.in_ok-edit.edit _ _ c.in_ok-edit.ensures.result)
