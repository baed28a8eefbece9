use Rattle.std.proofs.Common.{◌≡◌, ◌+◌, ◌∙◌, List, ◌∷◌, drop, ap, sym, subst, Result, Ok, Err, OnErr}
use Rattle.std.proofs.lemmas.List.{drop_more}
use Rattle.zed_op.specs.declared.op.Edit.{Edit}
use Rattle.zed_edit.specs.Replay.{MayGrowBy, replay_on}
use Rattle.zed_edit.proofs.Growing.{grows_here, grows_later}
use Rattle.zed_edit.proofs.author.replay_on.Goals as goal

any_err : {A E P : Type 0} (r : Result A E) → P → OnErr r P
any_err (Ok x) p = tt
any_err (Err e) p = p

pub loop-edit-preserved : goal.loop-edit-preserved
loop-edit-preserved c =
    let i = c.loop-edit.edit-index in
    let es = c.args.edits.now in
    let rest : List Edit = drop (i + 1) es in
    let steps : drop i es ≡ c.edit-item.result ∷ rest =
    drop_more es i c.edit-item.result c.loop-edit-test.true ∙ ap (λ x. x ∷ rest) (sym c.edit-item.is) in
    record {
      rest =
          ap (λ p. replay_on p rest) c.in_ok-step.ensures.result ∙ sym (ap (replay_on c.loop-edit.plain) steps)
          ∙ c.loop-edit.invariant.rest;
      grows = λ h. c.loop-edit.invariant.grows (subst (MayGrowBy c.loop-edit.plain) (sym steps) (grows_later c.loop-edit.plain c.edit-item.result rest (subst (λ p. MayGrowBy p rest) c.in_ok-step.ensures.result h)));
    }

pub returns-in_err-step-clause-memory_only_when : goal.returns-in_err-step-clause-memory_only_when
returns-in_err-step-clause-memory_only_when c =
    let i = c.loop-edit.edit-index in
    let es = c.args.edits.now in
    let rest : List Edit = drop (i + 1) es in
    let steps : drop i es ≡ c.edit-item.result ∷ rest =
    drop_more es i c.edit-item.result c.loop-edit-test.true ∙ ap (λ x. x ∷ rest) (sym c.edit-item.is) in
    any_err c.from_residual.result (c.loop-edit.invariant.grows (subst (MayGrowBy c.loop-edit.plain) (sym steps) (grows_here c.loop-edit.plain c.edit-item.result rest c.in_err-step.ensures.memory_only_when)))
