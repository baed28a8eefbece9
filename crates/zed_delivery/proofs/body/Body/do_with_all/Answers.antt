use Rattle.std.proofs.Common.{◌≡◌, List, [], ◌∷◌, ◌++◌, rules, subst, sym}
use Rattle.zed_op.specs.declared.op.Edit.{Edit}
use Rattle.zed_delivery.specs.Steps.{AreInHand}
use Rattle.zed_delivery.specs.Waking.{IsFollowed}
use Rattle.zed_delivery.proofs.Arriving.{new_in_hand, first_in_hand, woken_in_hand, shown_done}
use Rattle.zed_delivery.proofs.Stirring.{done_with_all}
use Rattle.zed_delivery.proofs.body.Body.do_with_all.Goals as goal

pub do_one-requires-clause-hand : goal.do_one-requires-clause-hand
do_one-requires-clause-hand c = new_in_hand c.args.edit.now c.args.self.now c.requires.fits c.requires.new

pub wake-requires-clause-last : goal.wake-requires-clause-last
wake-requires-clause-last c =
    let none : c.new-done.result.items ≡ [] = search rules in
    let P : List Edit → Type 0 = λ es. AreInHand [] (es ++ c.args.edit.now ∷ []) c.do_one.new.self in
    subst P (sym none) (first_in_hand c.args.edit.now c.args.self.now c.do_one.new.self c.requires.fits c.in_ok-do_one.ensures.ok c.requires.new)

pub settle-requires-clause-hand : goal.settle-requires-clause-hand
settle-requires-clause-hand c =
    let none : c.new-done.result.items ≡ [] = search rules in
    let P : List Edit → Type 0 = λ es. IsFollowed c.args.edit.now c.do_one.new.self es c.wake.new.self c.wake.new.done.items in
    woken_in_hand c.args.edit.now c.do_one.new.self c.wake.new.self c.wake.new.done.items (subst P none c.in_ok-wake.ensures.ok)
    (first_in_hand c.args.edit.now c.args.self.now c.do_one.new.self c.requires.fits c.in_ok-do_one.ensures.ok c.requires.new)

pub returns-clause-ok : goal.returns-clause-ok
returns-clause-ok c =
    let none : c.new-done.result.items ≡ [] = search rules in
    let P : List Edit → Type 0 = λ es. IsFollowed c.args.edit.now c.do_one.new.self es c.wake.new.self c.wake.new.done.items in
    shown_done c.args.edit.now c.args.self.now c.do_one.new.self c.wake.new.self c.wake.new.done.items c.settle.new.self c.requires.fits
    c.in_ok-do_one.ensures.ok (subst P none c.in_ok-wake.ensures.ok) c.in_ok-settle.ensures.ok

pub returns-clause-visits : goal.returns-clause-visits
returns-clause-visits c =
    done_with_all c.args.edit.now c.args.self.now c.do_one.new.self c.wake.new.self c.settle.new.self c.requires.new c.in_ok-do_one.ensures.runs c.do_one.ensures.inbox
    c.in_ok-wake.ensures.visits c.in_ok-settle.ensures.visits
