use Rattle.std.proofs.Common.{◌≡◌, ◌≤◌, ◌∙◌, Err, inl, inr, arith, ap, ap₂, length, subst, sym}
use Rattle.std.proofs.lemmas.Result.{err_from_is_err_and}
use Rattle.zed_editfile.specs.Spelling.{file_text}
use Rattle.zed_files.specs.Lines.{held_line, joined_line}
use Rattle.zed_files.specs.Effects.{Writes}
use Rattle.zed_program.specs.Merged.{ComesToMerge, IsMerged}
use Rattle.zed_session.specs.Links.{seen}
use Rattle.zed_files.proofs.Endings.{refused_ends}
use Rattle.zed_program.proofs.MergeEndings.{written_ends}
use Rattle.zed_program.proofs.Pulls.{each_of, merge_comes, merge_so, not_merged}
use Rattle.zed_files.proofs.Failures.{memory_is_other, memory_on, none_yet, other_on}
use Rattle.zed_files.proofs.OffStage.{off_on}
use Rattle.zed_files.specs.declared.refusal.Refusal.TheVariants.{Memory}
use Rattle.zed_program.proofs.MergedOff.{merged_off}
use Rattle.zed_program.proofs.MergedOthers.{merged_is_other}
use Rattle.std.proofs.Common.{[], refl}
use Rattle.zed_files.specs.Asked.{writing}
use Rattle.zed_files.proofs.Asked.{asks_nothing}
use Rattle.zed_program.proofs.merging.merge.Goals as goal

pub returns-clause-ends : goal.returns-clause-ends
returns-clause-ends g c = λ t at.
    let links = each_of c.args.links.now.items (λ link. seen ((goal.Link-dyn g (link.vtable, link.value)).ends link.value) ((goal.Link-dyn g (link.vtable, link.value)).reads link.value)) in
    let news = each_of c.pulled_from.new.links.items (λ link. seen ((goal.Link-dyn g (link.vtable, link.value)).ends link.value) ((goal.Link-dyn g (link.vtable, link.value)).reads link.value)) in
    let d = c.in_ok-document.document in
    let line : c.as_str.result.now ≡ joined_line d.edits =
    c.as_str.ensures.value ∙ c.in_ok-line.ensures ∙ ap₂ held_line (ap length c.edits.ensures.all) c.held.ensures in
    let text : file_text d.world d.edits ≡ file_text c.args.world d.edits = ap (λ w. file_text w d.edits) c.in_ok-document.ensures.world in
    let same : g.H.Host.faults c.args.host.now ≤ g.H.Host.faults c.args.host.now = omega arith in
    written_ends (λ f. ComesToMerge links news c.args.out.now c.args.world (length c.args.files.now)) c.write_document.result _ _ _ t
    (Writes c.args.out.now (file_text d.world d.edits) c.as_str.result.now) _
    (merge_so links news c.args.out.now c.args.world (length c.args.files.now)) same c.write_document.ensures.failures.0.0
    (merge_comes links news c.args.out.now c.args.world (length c.args.files.now) d.edits (file_text d.world d.edits) c.as_str.result.now c.in_ok-document.ensures.pulled text line)
    (c.write_document.ensures.ends t at)

pub returns-in_err-document-clause-ends : goal.returns-in_err-document-clause-ends
returns-in_err-document-clause-ends g c = λ t at.
    let links = each_of c.args.links.now.items (λ link. seen ((goal.Link-dyn g (link.vtable, link.value)).ends link.value) ((goal.Link-dyn g (link.vtable, link.value)).reads link.value)) in
    let news = each_of c.pulled_from.new.links.items (λ link. seen ((goal.Link-dyn g (link.vtable, link.value)).ends link.value) ((goal.Link-dyn g (link.vtable, link.value)).reads link.value)) in
    let p = err_from_is_err_and c.from_residual.result c.from_residual.ensures.1 in
    let same : p.0 ≡ c.in_err-document.field-0.0 = p.2 in
    rw (p.1, same) (refused_ends _ (ComesToMerge links news c.args.out.now c.args.world (length c.args.files.now)) t c.in_err-document.field-0.0 _ at
    (not_merged links news c.args.out.now c.args.world (length c.args.files.now) c.in_err-document.field-0.0 c.in_err-document.ensures.pulled))

pub returns-in_err-line-clause-ends : goal.returns-in_err-line-clause-ends
returns-in_err-line-clause-ends g c = λ t at.
    let links = each_of c.args.links.now.items (λ link. seen ((goal.Link-dyn g (link.vtable, link.value)).ends link.value) ((goal.Link-dyn g (link.vtable, link.value)).reads link.value)) in
    let news = each_of c.pulled_from.new.links.items (λ link. seen ((goal.Link-dyn g (link.vtable, link.value)).ends link.value) ((goal.Link-dyn g (link.vtable, link.value)).reads link.value)) in
    let p = err_from_is_err_and c.from_residual-in_err-line.result c.from_residual-in_err-line.ensures.1 in
    rw p.1 (refused_ends _ (ComesToMerge links news c.args.out.now c.args.world (length c.args.files.now)) t p.0 _ at (inl p.2))

pub returns-in_err-document-clause-failures : goal.returns-in_err-document-clause-failures
returns-in_err-document-clause-failures g c =
    other_on g.H.Host.faults g.H.Host.failed c.from_residual.result c.in_err-document.field-0.0 _ _ c.from_residual.ensures.1
    (merged_is_other c.args.world _ _ _ c.in_err-document.field-0.0 c.in_err-document.ensures.pulled) (none_yet g.H.Host.faults g.H.Host.failed _)

pub returns-in_err-line-clause-failures : goal.returns-in_err-line-clause-failures
returns-in_err-line-clause-failures g c =
    memory_on g.H.Host.faults g.H.Host.failed c.from_residual-in_err-line.result _ _ c.from_residual-in_err-line.ensures.1 (none_yet g.H.Host.faults g.H.Host.failed _)

pub returns-in_err-document-clause-asked : goal.returns-in_err-document-clause-asked
returns-in_err-document-clause-asked g c =
    let p = err_from_is_err_and c.from_residual.result c.from_residual.ensures.1 in
    let same : p.0 ≡ c.in_err-document.field-0.0 = p.2 in
    rw (p.1, same) (asks_nothing g.H.Host.called [] (writing c.args.out.now) c.in_err-document.field-0.0 _ (merged_is_other c.args.world _ _ _ c.in_err-document.field-0.0 c.in_err-document.ensures.pulled))

pub returns-in_err-line-clause-asked : goal.returns-in_err-line-clause-asked
returns-in_err-line-clause-asked g c =
    let p = err_from_is_err_and c.from_residual-in_err-line.result c.from_residual-in_err-line.ensures.1 in
    rw p.1 (asks_nothing g.H.Host.called [] (writing c.args.out.now) p.0 _ (memory_is_other p.0 p.2))

-- no screen is told of, and no source of keys
pub returns-in_err-document-clause-err : goal.returns-in_err-document-clause-err
returns-in_err-document-clause-err g c =
    off_on c.from_residual.result c.in_err-document.field-0.0 c.from_residual.ensures.1
    (merged_off c.args.world _ _ _ c.in_err-document.field-0.0 c.in_err-document.ensures.pulled)

pub returns-in_err-line-clause-err : goal.returns-in_err-line-clause-err
returns-in_err-line-clause-err g c =
    off_on c.from_residual-in_err-line.result Memory c.from_residual-in_err-line.ensures.1 (refl, refl)

-- memory was lacking in a pull, or behind the last one
pub returns-in_err-document-clause-memory_only_when : goal.returns-in_err-document-clause-memory_only_when
returns-in_err-document-clause-memory_only_when g c = λ is.
    let links = each_of c.args.links.now.items (λ link. seen ((goal.Link-dyn g (link.vtable, link.value)).ends link.value) ((goal.Link-dyn g (link.vtable, link.value)).reads link.value)) in
    let news = each_of c.pulled_from.new.links.items (λ link. seen ((goal.Link-dyn g (link.vtable, link.value)).ends link.value) ((goal.Link-dyn g (link.vtable, link.value)).reads link.value)) in
    let p = err_from_is_err_and c.from_residual.result c.from_residual.ensures.1 in
    let lack : c.in_err-document.field-0.0 ≡ Memory = let both : Err p.0 ≡ Err Memory = sym p.1 ∙ is in cc in
    inl (subst (λ e. IsMerged c.args.world (length c.args.files.now) links news (Err e)) lack c.in_err-document.ensures.pulled)

pub returns-in_err-line-clause-memory_only_when : goal.returns-in_err-line-clause-memory_only_when
returns-in_err-line-clause-memory_only_when g c = λ is. inr (c.in_ok-document.document.edits, c.in_ok-document.ensures.pulled)

pub returns-clause-memory_only_when : goal.returns-clause-memory_only_when
returns-clause-memory_only_when g c = λ is. inr (c.in_ok-document.document.edits, c.in_ok-document.ensures.pulled)
