use Rattle.std.proofs.Common.{◌≡◌, ◌+◌, List, [], ◌∷◌, length, suc, ap, subst, rules, arith}
use Rattle.zed_types.proofs.Facts.{none_of_length}
use Rattle.zed_op.specs.declared.op.Edit.{Edit}
use Rattle.zed_delivery.specs.Steps.{AreTried}
use Rattle.zed_delivery.specs.Stirring.{Stirs}
use Rattle.zed_delivery.proofs.BodySteps.{first_in_hand, tried_one_more}
use Rattle.zed_delivery.proofs.Stirring.{stirs_on}
use Rattle.zed_delivery.proofs.body.Body.retry_all.Goals as goal

pub retry-requires : goal.retry-requires
retry-requires c =
    let steps : c.loop-edit.edit-iterator.rest.items ≡ c.in-Some.edit ∷ c.next.new.self.rest.items = search rules in
    let P : List Edit → Type 0 =
    λ es. AreTried c.args.edits.items c.args.self.now c.args.done.now.items es c.loop-edit.self c.loop-edit.done.items in
    let many : P (c.in-Some.edit ∷ c.next.new.self.rest.items) = subst P steps c.loop-edit.invariant.tried in
    let h = c.requires in
    first_in_hand c.in-Some.edit c.next.new.self.rest.items c.loop-edit.done.items c.loop-edit.self (h.0, h.1, many h.0 h.1 h.2)

pub loop-edit-preserved : goal.loop-edit-preserved
loop-edit-preserved c = record {
  tried =
      let steps : c.loop-edit.edit-iterator.rest.items ≡ c.in-Some.edit ∷ c.next.new.self.rest.items = search rules in
      let P : List Edit → Type 0 =
      λ es. AreTried c.args.edits.items c.args.self.now c.args.done.now.items es c.loop-edit.self c.loop-edit.done.items in
      let many : P (c.in-Some.edit ∷ c.next.new.self.rest.items) = subst P steps c.loop-edit.invariant.tried in
      tried_one_more c.args.edits.items c.args.self.now c.args.done.now.items c.in-Some.edit c.next.new.self.rest.items c.loop-edit.self c.loop-edit.done.items c.retry.new.self c.retry.new.done.items many c.in_ok-retry.ensures.ok;
  fit = λ a. c.in_ok-retry.ensures.fits (c.loop-edit.invariant.fit a);
  texts =
      let steps : c.loop-edit.edit-iterator.rest.items ≡ c.in-Some.edit ∷ c.next.new.self.rest.items = search rules in
      let count : length c.loop-edit.edit-iterator.rest.items ≡ suc (length c.next.new.self.rest.items) = ap length steps in
      let so_far = c.loop-edit.invariant.texts in
      (so_far.0 + 1, omega (arith, so_far.1, count), stirs_on so_far.0 1 c.args.self.now c.loop-edit.self c.retry.new.self so_far.2 c.in_ok-retry.ensures.visits);
  few =
      let steps : c.loop-edit.edit-iterator.rest.items ≡ c.in-Some.edit ∷ c.next.new.self.rest.items = search rules in
      let count : length c.loop-edit.edit-iterator.rest.items ≡ suc (length c.next.new.self.rest.items) = ap length steps in
      let step = c.in_ok-retry.ensures.few in
      omega (arith, c.loop-edit.invariant.few);
}

pub returns-clause-ok : goal.returns-clause-ok
returns-clause-ok c =
    let none = c.in-None.ensures.steps.0 in
    let count : length c.loop-edit.edit-iterator.rest.items ≡ 0 = search rules in
    let ends : c.loop-edit.edit-iterator.rest.items ≡ [] = none_of_length c.loop-edit.edit-iterator.rest.items count in
    let P : List Edit → Type 0 =
    λ es. AreTried c.args.edits.items c.args.self.now c.args.done.now.items es c.loop-edit.self c.loop-edit.done.items in
    subst P ends c.loop-edit.invariant.tried

pub returns-clause-visits : goal.returns-clause-visits
returns-clause-visits c =
    let none = c.in-None.ensures.steps.0 in
    let count : length c.loop-edit.edit-iterator.rest.items ≡ 0 = search rules in
    let so_far = c.loop-edit.invariant.texts in
    let all : so_far.0 ≡ length c.args.edits.items = omega (arith, so_far.1, count) in
    subst (λ n. Stirs n c.args.self.now c.loop-edit.self) all so_far.2
