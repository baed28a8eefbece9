use Rattle.std.proofs.Common.{◌≡◌, ◌≤◌, ◌∙◌, ℕ, List, [], arith, inl, Ok, ap, ap₂, Result}
use Rattle.std.proofs.lemmas.Result.{err_from_is_err_and}
use Rattle.zed_editfile.specs.Spelling.{file_text}
use Rattle.zed_files.specs.Effects.{Effect, Writes}
use Rattle.zed_files.specs.Refusals.{file_refusal}
use Rattle.zed_files.specs.declared.refusal.Refusal.{Refusal}
use Rattle.zed_host.proofs.Counts.{counted_up}
use Rattle.zed_files.proofs.Endings.{effect_ends, refused_ends}
use Rattle.zed_files.proofs.Failures.{file_is_other, memory_is_other, none_yet, other_on, write_tells}
use Rattle.zed_files.proofs.OffStage.{file_off, off_on, written_off}
use Rattle.zed_files.specs.Asked.{writing}
use Rattle.zed_files.proofs.Asked.{asks_nothing}
use Rattle.zed_program.proofs.writing.write_document.Goals as goal

pub returns-clause-ends : goal.returns-clause-ends
returns-clause-ends g c = λ t at.
    let d = c.args.document.now in
    let text : c.as_slice.result.now ≡ file_text d.world d.edits =
    c.as_slice.ensures.value ∙ c.in_ok-text.ensures.ok ∙ ap₂ file_text c.world.ensures c.edits.ensures.all in
    let written : List ℕ → Result Effect Refusal = λ bytes. Ok (Writes c.args.out.now bytes c.args.line.now) in
    let same : g.H.Host.faults c.args.host.now ≤ g.H.Host.faults c.args.host.now = omega arith in
    effect_ends (λ f r. r ≡ written (file_text d.world d.edits)) c.write_out.result _ _ _ t (Writes c.args.out.now c.as_slice.result.now c.args.line.now) _
    (λ p q r so is. is) same (counted_up _ _ _ c.write_out.ensures.faults) (ap written text)
    (c.write_out.ensures.ok t at) (c.write_out.ensures.half t at) c.write_out.ensures.err c.write_out.ensures.faults

pub returns-in_err-text-clause-ends : goal.returns-in_err-text-clause-ends
returns-in_err-text-clause-ends g c = λ t at.
    let d = c.args.document.now in
    let p = err_from_is_err_and c.from_residual.result c.from_residual.ensures.1 in
    rw p.1 (refused_ends _ (λ r. r ≡ Ok (Writes c.args.out.now (file_text d.world d.edits) c.args.line.now)) t p.0 _ at (inl (p.2 ∙ ap file_refusal c.in_err-text.ensures.err)))

pub returns-in_err-text-clause-failures : goal.returns-in_err-text-clause-failures
returns-in_err-text-clause-failures g c =
    other_on g.H.Host.faults g.H.Host.failed c.from_residual.result (file_refusal c.in_err-text.field-0.0) _ _ c.from_residual.ensures.1
    (file_is_other c.in_err-text.field-0.0) (none_yet g.H.Host.faults g.H.Host.failed _)

pub returns-clause-failures : goal.returns-clause-failures
returns-clause-failures g c =
    write_tells g.H.Host.faults g.H.Host.failed c.write_out.result _ _ _ (none_yet g.H.Host.faults g.H.Host.failed _) c.write_out.ensures.faults c.write_out.ensures.failures

pub returns-in_err-text-clause-asked : goal.returns-in_err-text-clause-asked
returns-in_err-text-clause-asked g c =
    let p = err_from_is_err_and c.from_residual.result c.from_residual.ensures.1 in
    rw p.1 (asks_nothing g.H.Host.called [] (writing c.args.out.now) p.0 _ (memory_is_other p.0 (p.2 ∙ ap file_refusal c.in_err-text.ensures.err)))

-- no screen is told of, and no source of keys
pub returns-in_err-text-clause-err : goal.returns-in_err-text-clause-err
returns-in_err-text-clause-err g c =
    off_on c.from_residual.result (file_refusal c.in_err-text.field-0.0) c.from_residual.ensures.1 (file_off c.in_err-text.field-0.0)

pub returns-clause-err : goal.returns-clause-err
returns-clause-err g c = written_off c.write_out.result c.write_out.ensures.err
