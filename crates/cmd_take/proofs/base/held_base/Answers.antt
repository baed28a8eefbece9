use Rattle.std.proofs.Common.{◌≡◌, Some, refl}
use Rattle.std.proofs.lemmas.Result.{err_from_is_err_and}
use Rattle.cmd_take.specs.Base.{HasEdits}
use Rattle.cmd_take.specs.Files.{OpensAs}
use Rattle.cmd_take.proofs.Steps.{step_ok, step_refused}
use Rattle.cmd_take.proofs.base.held_base.Goals as goal

pub returns-in_err-document-clause-read : goal.returns-in_err-document-clause-read
returns-in_err-document-clause-read c =
    let p = err_from_is_err_and c.from_residual.result c.from_residual.ensures.1 in
    let same : p.0 ≡ c.in_err-document.field-0.0 = p.2 in
    rw (p.1, same) (step_refused (OpensAs (Some c.args.number) c.args.file) HasEdits c.in_err-document.field-0.0 c.in_err-document.ensures.opened)

pub returns-clause-read : goal.returns-clause-read
returns-clause-read c =
    step_ok (OpensAs (Some c.args.number) c.args.file) HasEdits _ _ c.in_ok-document.ensures.opened refl

pub returns-clause-world : goal.returns-clause-world
returns-clause-world c = c.in_ok-document.ensures.world c.args.number refl
