use Rattle.std.proofs.Common.{◌≡◌, ◌+◌, ◌∙◌, List, ◌∷◌, drop, ap, sym, subst}
use Rattle.std.proofs.lemmas.List.{drop_more}
use Rattle.zed_op.specs.declared.op.Edit.{Edit}
use Rattle.zed_op.specs.Fit.{Fits}
use Rattle.zed_op.specs.Set.{AllFit}
use Rattle.zed_delivery.specs.TakingAll.{ComeOneByOne}
use Rattle.zed_delivery.proofs.ManyArrive.{one_more_came, rest_fits}
use Rattle.zed_delivery.proofs.Stirring.{none_falls-through}
use Rattle.zed_delivery.proofs.body.Body.take_all.Goals as goal

pub loop-edit-preserved : goal.loop-edit-preserved
loop-edit-preserved c = record {
  come =
      let i = c.loop-edit.edit-index in
      let edits = c.args.edits.now in
      let rest : List Edit = drop (i + 1) edits in
      let steps : drop i edits ≡ c.edit-item.result ∷ rest =
      drop_more edits i c.edit-item.result c.loop-edit-test.true ∙ ap (λ x. x ∷ rest) (sym c.edit-item.is) in
      let left : AllFit (c.edit-item.result ∷ rest) = subst AllFit steps (rest_fits i edits c.requires.fit) in
      let fits : Fits c.edit-item.result = left.0 in
      let P : List Edit → Type 0 = λ es. ComeOneByOne edits c.args.self.now es c.loop-edit.self in
      one_more_came edits c.args.self.now c.edit-item.result rest c.loop-edit.self c.take.new.self fits (subst P steps c.loop-edit.invariant.come) c.in_ok-take.ensures.ok;
  visits = none_falls-through c.args.self.now.texts c.loop-edit.self.texts c.take.new.self.texts c.loop-edit.invariant.visits c.in_ok-take.ensures.visits.none_falls;
}
