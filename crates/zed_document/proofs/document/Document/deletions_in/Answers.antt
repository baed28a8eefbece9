use Rattle.std.proofs.Common.{◌≡◌, ◌<◌, false, length, ap, sym, ◌∙◌, subst}
use Rattle.zed_edit.specs.declared.plain.Plain.{Plain}
use Rattle.zed_edit.specs.Document.{elements}
use Rattle.zed_history.specs.Clock.{is_spent}
use Rattle.zed_types.specs.Text.{alive}
use Rattle.zed_document.specs.Authoring.{part, stretches, stretches_of}
use Rattle.zed_document.proofs.DeletedParts.{some-stretch, spent-one}
use Rattle.zed_document.proofs.document.Document.deletions_in.Goals as goal

pub is_spent-requires-clause-some : goal.is_spent-requires-clause-some
is_spent-requires-clause-some c =
    let count : c.count_stretches.result ≡ length (stretches_of c.args.self.now.edits c.args.text c.args.from c.args.to) =
    c.count_stretches.ensures
    ∙ ap (λ (p : Plain). length (stretches (part c.args.from c.args.to (alive (elements p c.args.text))))) c.requires.shows in
    subst (λ n. 0 < n) (sym count) (some-stretch c.args.self.now.edits c.args.text c.args.from c.args.to c.requires.part)

pub next_time-time-requires-clause-left : goal.next_time-time-requires-clause-left
next_time-time-requires-clause-left c =
    let count : c.count_stretches.result ≡ length (stretches_of c.args.self.now.edits c.args.text c.args.from c.args.to) =
    c.count_stretches.ensures
    ∙ ap (λ (p : Plain). length (stretches (part c.args.from c.args.to (alive (elements p c.args.text))))) c.requires.shows in
    let left : is_spent c.args.self.now.edits (length (stretches_of c.args.self.now.edits c.args.text c.args.from c.args.to)) ≡ false =
    ap (is_spent c.args.self.now.edits) (sym count) ∙ ap (λ es. is_spent es c.count_stretches.result) (sym c.edits.ensures.all)
    ∙ sym c.is_spent.ensures ∙ c.if-is_spent.false in
    ap (λ es. is_spent es 1) c.edits-2.ensures.all ∙ spent-one c.args.self.now.edits _ (some-stretch c.args.self.now.edits c.args.text c.args.from c.args.to c.requires.part) left
