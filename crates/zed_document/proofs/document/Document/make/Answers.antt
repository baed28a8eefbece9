use Rattle.std.proofs.Common.{◌∙◌, Err, ap, refl}
use Rattle.std.proofs.lemmas.Result.{err_from_is_err_and}
use Rattle.zed_op.specs.Fit.{fault}
use Rattle.zed_document.specs.Authoring.{AnswersToDo}
use Rattle.zed_document.proofs.Checked.{refused-answers}
use Rattle.zed_document.proofs.document.Document.make.Goals as goal

pub returns-in_err-check-clause-result : goal.returns-in_err-check-clause-result
returns-in_err-check-clause-result c =
    let p = err_from_is_err_and c.from_residual.result c.from_residual.ensures.1 in
    refused-answers (λ f. AnswersToDo f c.args.self.now.edits c.args.edit) (λ x d h. h) (fault c.args.edit) c.in_err-check.field-0.0 (Err c.in_err-check.field-0.0) c.from_residual.result refl c.in_err-check.ensures.result (p.1 ∙ ap Err p.2)
