use Rattle.std.proofs.Common.{◌≡◌, false, Err, ap, refl, sym, ◌∙◌}
use Rattle.std.proofs.lemmas.Result.{err_from_is_err_and}
use Rattle.zed_op.specs.Fit.{fault}
use Rattle.zed_document.specs.Delivery.{AnswersFit}
use Rattle.zed_document.specs.Replica.{Replica}
use Rattle.zed_document.proofs.Checked.{refused-answers}
use Rattle.zed_document.proofs.document.Document.deliver.Goals as goal

pub returns-in_err-check-clause-result : goal.returns-in_err-check-clause-result
returns-in_err-check-clause-result c =
    let sound : c.args.self.now.is_stale ≡ false = sym (ap (λ (r : Replica). r.is_stale) c.self.view_is) ∙ c.if-self.false in
    let p = err_from_is_err_and c.from_residual.result c.from_residual.ensures.1 in
    let h = refused-answers (λ f. AnswersFit f c.args.self.now.edits c.args.edit) (λ x d h. h) (fault c.args.edit) c.in_err-check.field-0.0 (Err c.in_err-check.field-0.0) c.from_residual.result refl c.in_err-check.ensures.result (p.1 ∙ ap Err p.2) in
    rw sound h
