use Rattle.std.proofs.Common.{◌≡◌, List, [], ◌∷◌, length, refl, subst, rules, arith}
use Rattle.zed_op.specs.declared.thing.Thing.{Thing}
use Rattle.zed_delivery.specs.Waking.{AreWoken}
use Rattle.zed_delivery.proofs.Stirring.{stirs_on}
use Rattle.zed_delivery.proofs.Waking.{next_to_wake, woken_one_more}
use Rattle.zed_delivery.proofs.body.Body.wake_all.Goals as goal

pub wake_one-requires : goal.wake_one-requires
wake_one-requires c =
    next_to_wake c.args.things.items c.args.self.now c.args.done.now.items c.loop-thing.thing-iterator.rest.items c.loop-thing.self c.loop-thing.done.items c.requires c.loop-thing.invariant.woken

pub loop-thing-preserved : goal.loop-thing-preserved
loop-thing-preserved c = record {
  woken =
      let steps : c.loop-thing.thing-iterator.rest.items ≡ c.in-Some.thing ∷ c.next.new.self.rest.items = search rules in
      let P : List Thing → Type 0 =
      λ xs. AreWoken c.args.things.items c.args.self.now c.args.done.now.items xs c.loop-thing.self c.loop-thing.done.items in
      let many : P (c.in-Some.thing ∷ c.next.new.self.rest.items) = subst P steps c.loop-thing.invariant.woken in
      woken_one_more c.args.things.items c.args.self.now c.args.done.now.items c.in-Some.thing c.next.new.self.rest.items c.loop-thing.self c.loop-thing.done.items c.wake_one.new.self c.wake_one.new.done.items many c.in_ok-wake_one.ensures.ok;
  fit = λ a. c.in_ok-wake_one.ensures.fits (c.loop-thing.invariant.fit a);
  texts = stirs_on 0 0 c.args.self.now c.loop-thing.self c.wake_one.new.self c.loop-thing.invariant.texts c.in_ok-wake_one.ensures.visits;
  few = let step = c.in_ok-wake_one.ensures.few in omega (arith, c.loop-thing.invariant.few);
}

no_things : (xs : List Thing) → length xs ≡ 0 → xs ≡ []
no_things [] h = refl
no_things (x ∷ xs) h = absurd (omega (arith, h))

pub returns-clause-ok : goal.returns-clause-ok
returns-clause-ok c =
    let none = c.in-None.ensures.steps.0 in
    let count : length c.loop-thing.thing-iterator.rest.items ≡ 0 = search rules in
    let ends : c.loop-thing.thing-iterator.rest.items ≡ [] = no_things c.loop-thing.thing-iterator.rest.items count in
    let P : List Thing → Type 0 =
    λ xs. AreWoken c.args.things.items c.args.self.now c.args.done.now.items xs c.loop-thing.self c.loop-thing.done.items in
    subst P ends c.loop-thing.invariant.woken
