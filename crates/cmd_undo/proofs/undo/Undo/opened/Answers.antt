use Rattle.std.proofs.Common.{◌≡◌, None, ap}
use Rattle.std.proofs.lemmas.Result.{err_from_is_err_and}
use Rattle.cmd_take.specs.Files.{OpensAs}
use Rattle.cmd_take.proofs.TakeSteps.{authored_not}
use Rattle.cmd_undo.specs.Undoing.{WishUndoes, meaning_of}
use Rattle.cmd_undo.proofs.UndoSteps.{chosen_led, chosen_not_led, is_pulled, pulled_led}
use Rattle.cmd_undo.proofs.undo.Undo.opened.Goals as goal

pub returns-in_err-document-clause-leads : goal.returns-in_err-document-clause-leads
returns-in_err-document-clause-leads c =
    let p = err_from_is_err_and c.from_residual.result c.from_residual.ensures.1 in
    let same : p.0 ≡ c.in_err-document.field-0.0 = p.2 in
    let s = c.args.self.now in
    rw (p.1, same) (authored_not s.replica (OpensAs None) (WishUndoes s.file.now s.manner s.replica (meaning_of s.source)) c.args.file c.in_err-document.field-0.0 c.requires
    c.in_err-document.ensures.memory_only_when c.in_err-document.ensures.opened)

pub returns-in-Pulled-clause-leads : goal.returns-in-Pulled-clause-leads
returns-in-Pulled-clause-leads c =
    let s = c.args.self.now in
    let d = c.in_ok-document.document in (
      c.in_ok-document.ensures.sound,
      pulled_led s.file.now s.manner s.replica (meaning_of s.source) c.args.file (d.world, d.edits) c.requires c.in_ok-document.ensures.there c.in_ok-document.ensures.opened
          (ap (λ w. is_pulled (meaning_of w)) c.in-Pulled.is),
    )

pub returns-in_err-effect-in-Chosen-clause-leads : goal.returns-in_err-effect-in-Chosen-clause-leads
returns-in_err-effect-in-Chosen-clause-leads c =
    let p = err_from_is_err_and c.from_residual-in_err-effect-in-Chosen.result c.from_residual-in_err-effect-in-Chosen.ensures.1 in
    let same : p.0 ≡ c.in_err-effect-in-Chosen.field-0.0 = p.2 in
    let s = c.args.self.now in
    let d = c.in_ok-document.document in
    rw (p.1, same) (chosen_not_led s.file.now s.manner s.replica (meaning_of s.source) c.args.file (d.world, d.edits) _ c.in_err-effect-in-Chosen.field-0.0 c.requires c.in_ok-document.ensures.there
    c.in_ok-document.ensures.opened (ap meaning_of c.in-Chosen.is) c.in_err-effect-in-Chosen.ensures)

pub returns-in_ok-effect-in-Chosen-clause-leads : goal.returns-in_ok-effect-in-Chosen-clause-leads
returns-in_ok-effect-in-Chosen-clause-leads c =
    let s = c.args.self.now in
    let d = c.in_ok-document.document in (
      tt,
      chosen_led s.file.now s.manner s.replica (meaning_of s.source) c.args.file (d.world, d.edits) _ c.in_ok-effect-in-Chosen.effect c.requires c.in_ok-document.ensures.there
          c.in_ok-document.ensures.opened (ap meaning_of c.in-Chosen.is) c.in_ok-effect-in-Chosen.ensures,
    )
