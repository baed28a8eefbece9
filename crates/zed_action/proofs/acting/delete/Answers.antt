use Rattle.std.proofs.lemmas.Result.{err_from_is_err_and}
use Rattle.zed_action.proofs.Calls.{deleted, not_deleted, was_done}
use Rattle.zed_action.proofs.acting.delete.Goals as goal

pub returns-in_err-delete_text-clause-ends : goal.returns-in_err-delete_text-clause-ends
returns-in_err-delete_text-clause-ends c =
    let p = err_from_is_err_and c.from_residual.result c.from_residual.ensures.1 in
    rw p.1 (not_deleted c.args.document.now c.args.replica c.args.text c.args.from c.args.to c.in_err-delete_text.field-0.0 p.0 p.2 c.in_err-delete_text.ensures.result)

pub returns-clause-ends : goal.returns-clause-ends
returns-clause-ends c =
    deleted c.args.document.now c.args.replica c.args.text c.args.from c.args.to _ c.delete_text.new.self.edits c.in_ok-delete_text.ensures.edits
    (was_done _ _ _ c.in_ok-delete_text.ensures.result)
