use Rattle.std.proofs.Common.{◌≡◌, ◌+◌, List, [], ◌∷◌, ◌++◌, length, subst, rules, arith}
use Rattle.zed_op.specs.declared.op.Edit.{Edit}
use Rattle.zed_op.specs.Set.{AllFit}
use Rattle.zed_delivery.specs.Settling.{AreSettled}
use Rattle.zed_delivery.proofs.Settling.{front_fits, next_in_hand, settled_one_more}
use Rattle.zed_delivery.proofs.Stirring.{stirs_on}
use Rattle.zed_delivery.proofs.body.Body.settle.Goals as goal

pub wake_last-requires-clause-last : goal.wake_last-requires-clause-last
wake_last-requires-clause-last c =
    let last : c.loop-edit.rest.items ≡ c.pop.new.self.items ++ c.in-Some.edit ∷ [] = search rules in
    let P : List Edit → Type 0 = λ es. AreSettled c.args.done.items c.args.self.now es c.loop-edit.self in
    next_in_hand c.args.done.items c.args.self.now (c.pop.new.self.items ++ c.in-Some.edit ∷ []) c.loop-edit.self c.requires.hand (subst P last c.loop-edit.invariant.settled)

pub loop-edit-preserved : goal.loop-edit-preserved
loop-edit-preserved c =
    let last : c.loop-edit.rest.items ≡ c.pop.new.self.items ++ c.in-Some.edit ∷ [] = search rules in
    record {
      settled =
          let P : List Edit → Type 0 = λ es. AreSettled c.args.done.items c.args.self.now es c.loop-edit.self in
          settled_one_more c.args.done.items c.args.self.now c.in-Some.edit c.pop.new.self.items c.loop-edit.self c.wake_last.new.rest.items c.wake_last.new.self
          (subst P last c.loop-edit.invariant.settled) c.in_ok-wake_last.ensures.ok;
      fit = c.in_ok-wake_last.ensures.fits (front_fits c.in-Some.edit c.pop.new.self.items (subst AllFit last c.loop-edit.invariant.fit));
      texts =
          stirs_on 0 0 c.args.self.now c.loop-edit.self c.wake_last.new.self c.loop-edit.invariant.texts c.in_ok-wake_last.ensures.visits;
      few =
          let step = c.in_ok-wake_last.ensures.few in
          let fewer : length c.loop-edit.rest.items ≡ length c.pop.new.self.items + 1 = search rules in
          omega (arith, c.loop-edit.invariant.few);
    }

pub returns-clause-ok : goal.returns-clause-ok
returns-clause-ok c =
    let ends : c.loop-edit.rest.items ≡ [] = search rules in
    let P : List Edit → Type 0 = λ es. AreSettled c.args.done.items c.args.self.now es c.loop-edit.self in
    subst P ends c.loop-edit.invariant.settled
