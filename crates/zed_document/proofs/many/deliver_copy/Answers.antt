use Rattle.std.proofs.Common.{◌≡◌, ◌∙◌, ◌<◌, List, None, ap, inr, length, subst, sym}
use Rattle.zed_op.specs.declared.op.Edit.{Edit}
use Rattle.zed_op.specs.Set.{with_edit}
use Rattle.zed_history.specs.Finding.{edit_with}
use Rattle.zed_document.specs.Replica.{Replica}
use Rattle.zed_document.proofs.Copies.{found_none, found_nothing, one_longer}
use Rattle.zed_document.proofs.many.deliver_copy.Goals as goal

pub returns-then-is_some-clause-edits : goal.returns-then-is_some-clause-edits
returns-then-is_some-clause-edits c =
    let kept : c.seek.new.self ≡ c.args.intake.now = c.seek.ensures in
    let same = found_nothing c.args.edit.now c.find.result c.seek.new.self.edits (sym c.is_some.ensures ∙ c.if-is_some.true) c.find.ensures.some c.find.ensures.known in
    sym same ∙ ap (λ (r : Replica). with_edit c.args.edit.now r.edits) kept

pub returns-clause-grows : goal.returns-clause-grows
returns-clause-grows c =
    let kept : c.seek.new.self ≡ c.args.intake.now = c.seek.ensures in
    let none = found_none c.args.edit.now.stamp c.find.result c.seek.new.self.edits (sym c.is_some.ensures ∙ c.if-is_some.false) c.find.ensures.none in
    let new : edit_with c.args.edit.now.stamp c.args.intake.now.edits ≡ None =
    ap (λ (r : Replica). edit_with c.args.edit.now.stamp r.edits) (sym kept) ∙ none in
    let more : c.deliver.new.self.edits ≡ with_edit c.args.edit.now c.args.intake.now.edits =
    c.in_ok-deliver.ensures.edits ∙ ap (λ (e : Edit). with_edit e c.seek.new.self.edits) c.in_ok-copy.ensures.ok ∙ ap (λ (r : Replica). with_edit c.args.edit.now r.edits) kept in
    inr (subst (λ (es : List Edit). length c.args.intake.now.edits < length es) (sym more) (one_longer c.args.edit.now c.args.intake.now.edits new))
