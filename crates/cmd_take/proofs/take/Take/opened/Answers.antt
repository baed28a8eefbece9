use Rattle.std.proofs.Common.{◌≡◌, ◌∙◌, Err, None, ap, inl, inr, sym}
use Rattle.std.proofs.lemmas.Result.{err_from_is_err_and}
use Rattle.zed_files.specs.Texts.{text_in}
use Rattle.cmd_take.specs.Base.{base_word, presence_of}
use Rattle.cmd_take.specs.Files.{OpensAs}
use Rattle.cmd_take.specs.Taking.{BaseTakes}
use Rattle.cmd_take.proofs.TakeSteps.{authored_not, opened_alone, opened_beside}
use Rattle.cmd_take.proofs.take.Take.opened.Goals as goal

pub returns-in_err-document-clause-leads : goal.returns-in_err-document-clause-leads
returns-in_err-document-clause-leads c =
    let p = err_from_is_err_and c.from_residual.result c.from_residual.ensures.1 in
    let same : p.0 ≡ c.in_err-document.field-0.0 = p.2 in
    let s = c.args.self.now in
    let base = text_in s.base in
    rw (p.1, same) (authored_not s.replica (OpensAs None) (BaseTakes (presence_of base) (base_word base s.world.now) s.file.now s.replica s.forcing) c.args.file c.in_err-document.field-0.0 c.requires
    c.in_err-document.ensures.memory_only_when c.in_err-document.ensures.opened)

pub returns-in_err-name-clause-leads : goal.returns-in_err-name-clause-leads
returns-in_err-name-clause-leads c =
    let p = err_from_is_err_and c.from_residual-in_err-name.result c.from_residual-in_err-name.ensures.1 in
    rw p.1 (inr (c.requires, inl (ap (λ x. Err x) p.2, c.in_ok-document.ensures.there)))

pub returns-then-eq-clause-leads : goal.returns-then-eq-clause-leads
returns-then-eq-clause-leads c =
    let s = c.args.self.now in
    let d = c.in_ok-document.document in (
      (c.in_ok-document.ensures.sound, tt),
      opened_alone (text_in s.base) s.file.now s.replica s.forcing s.world.now c.args.file (d.world, d.edits) _ c.requires c.in_ok-document.ensures.there c.in_ok-document.ensures.opened
          c.in_ok-name.ensures (rw c.as_str.ensures.value at (sym c.eq.ensures ∙ c.if-eq.true)),
    )

pub returns-else-eq-clause-leads : goal.returns-else-eq-clause-leads
returns-else-eq-clause-leads c =
    let s = c.args.self.now in
    let d = c.in_ok-document.document in (
      c.in_ok-document.ensures.sound,
      opened_beside (text_in s.base) s.file.now s.replica s.forcing s.world.now c.args.file (d.world, d.edits) _ c.requires c.in_ok-document.ensures.there c.in_ok-document.ensures.opened
          c.in_ok-name.ensures (rw c.as_str.ensures.value at (sym c.eq.ensures ∙ c.if-eq.false)),
    )
