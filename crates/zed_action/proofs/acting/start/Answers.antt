use Rattle.std.proofs.Common.{◌≡◌, ◌∙◌, ap, sym}
use Rattle.std.proofs.lemmas.Result.{err_from_is_err_and}
use Rattle.zed_op.specs.declared.op.Edit.{Edit}
use Rattle.zed_types.specs.Names.{text_of}
use Rattle.zed_action.proofs.Calls.{second_refused, third_done, third_refused}
use Rattle.zed_action.proofs.acting.start.Goals as goal

pub returns-in_err-insert-clause-ends : goal.returns-in_err-insert-clause-ends
returns-in_err-insert-clause-ends c =
    let p = err_from_is_err_and c.from_residual-in_err-insert.result c.from_residual-in_err-insert.ensures.1 in
    let same : p.0 ≡ c.in_err-insert.field-0.0 = p.2 in
    rw (p.1, same) (second_refused c.args.document.now c.author.new.document c.args.replica c.args.stat _ c.args.bytes c.in_err-insert.field-0.0
    c.in_ok-edit.ensures.ends (c.in_ok-edit.ensures.sound ∙ sym c.requires) (c.new-text.ensures ∙ ap (λ (e : Edit). text_of e.stamp 0) c.in_ok-edit.ensures.made) c.in_err-insert.ensures.ends)

pub returns-in_err-author-clause-ends : goal.returns-in_err-author-clause-ends
returns-in_err-author-clause-ends c =
    let p = err_from_is_err_and c.from_residual-in_err-author.result c.from_residual-in_err-author.ensures.1 in
    let same : p.0 ≡ c.in_err-author.field-0.0 = p.2 in
    rw (p.1, same) (third_refused c.args.document.now c.author.new.document c.insert.new.document c.args.replica c.args.stat _ c.args.bytes c.in_err-author.field-0.0
    c.in_ok-edit.ensures.ends (c.in_ok-edit.ensures.sound ∙ sym c.requires) (c.new-text.ensures ∙ ap (λ (e : Edit). text_of e.stamp 0) c.in_ok-edit.ensures.made) c.in_ok-insert.ensures.ends (c.in_ok-insert.ensures.sound ∙ sym c.requires) c.in_err-author.ensures.ends)

pub returns-clause-ends : goal.returns-clause-ends
returns-clause-ends c =
    third_done c.args.document.now c.author.new.document c.insert.new.document c.args.replica c.args.stat _ c.args.bytes c.author-2.new.document.edits
    c.in_ok-edit.ensures.ends (c.in_ok-edit.ensures.sound ∙ sym c.requires) (c.new-text.ensures ∙ ap (λ (e : Edit). text_of e.stamp 0) c.in_ok-edit.ensures.made) c.in_ok-insert.ensures.ends (c.in_ok-insert.ensures.sound ∙ sym c.requires) c.in_ok-author.ensures.ends
