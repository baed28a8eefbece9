use Rattle.std.proofs.Common.{◌≡◌, ◌∙◌, ◌+◌, ◌++◌, suc, List, [], ◌∷◌, None, drop, take, add-one, ap, arith, sym}
use Rattle.std.proofs.Math.Seq.{take-suc}
use Rattle.std.proofs.lemmas.List.{drop_more}
use Rattle.std.proofs.lemmas.Result.{err_from_is_err_and}
use Rattle.zed_op.specs.declared.op.Edit.{Edit}
use Rattle.zed_op.specs.Set.{union, with_edit}
use Rattle.zed_history.specs.Finding.{edit_with}
use Rattle.zed_document.proofs.Copies.{front_below, grown_more, none_first, one_new, union_last}
use Rattle.zed_document.proofs.Fronts.{falls_more}
use Rattle.zed_document.proofs.many.deliver_copies.Goals as goal

pub loop-edit-preserved : goal.loop-edit-preserved
loop-edit-preserved c =
    let old = c.loop-edit.invariant in
    let o = c.in_ok-deliver_copy.ensures in
    let i = c.loop-edit.edit-index in
    let e = c.edit-item.result in
    let other = c.args.other.now in
    let own = c.args.intake.now.edits in
    let taken : take (suc i) other ≡ take i other ++ e ∷ [] =
    take-suc other i e (omega arith) ∙ ap (λ (x : Edit). take i other ++ x ∷ []) (sym c.edit-item.is) in
    rw add-one (record {
      edits = o.edits ∙ ap (with_edit e) old.edits ∙ sym (union_last own (take i other) e) ∙ ap (union own) (sym taken);
      grown = grown_more c.args.intake.now c.loop-edit.intake c.deliver_copy.new.intake old.grown o.grows;
      world = o.world ∙ old.world;
      sound = o.sound;
      falls = falls_more c.args.intake.now.counts c.loop-edit.intake.counts c.deliver_copy.new.intake.counts old.falls o.visits;
    })

pub returns-in_err-deliver_copy-clause-front : goal.returns-in_err-deliver_copy-clause-front
returns-in_err-deliver_copy-clause-front c =
    let p = err_from_is_err_and c.from_residual.result c.from_residual.ensures.1 in
    let i = c.loop-edit.edit-index in
    let e = c.edit-item.result in
    let other = c.args.other.now in
    let cut : drop i other ≡ e ∷ drop (i + 1) other =
    drop_more other i e (omega arith) ∙ ap (λ (x : Edit). x ∷ drop (i + 1) other) (sym c.edit-item.is) in
    rw p.1 (e.stamp, c.in_err-deliver_copy.ensures.edits ∙ c.loop-edit.invariant.edits ∙ ap (union c.args.intake.now.edits) (front_below other (drop (i + 1) other) i e c.requires.rising cut))

pub returns-in_err-deliver_copy-clause-new : goal.returns-in_err-deliver_copy-clause-new
returns-in_err-deliver_copy-clause-new c =
    let p = err_from_is_err_and c.from_residual.result c.from_residual.ensures.1 in
    let i = c.loop-edit.edit-index in
    let e = c.edit-item.result in
    let other = c.args.other.now in
    let own = c.args.intake.now.edits in
    let cut : drop i other ≡ e ∷ drop (i + 1) other =
    drop_more other i e (omega arith) ∙ ap (λ (x : Edit). x ∷ drop (i + 1) other) (sym c.edit-item.is) in
    let none : edit_with e.stamp (union own (take i other)) ≡ None =
    ap (edit_with e.stamp) (sym c.loop-edit.invariant.edits) ∙ c.in_err-deliver_copy.ensures.new in
    rw p.1 (one_new own other (drop (i + 1) other) i e cut (none_first e.stamp own (take i other) none))
