use Rattle.std.proofs.Common.{◌≡◌, ◌+◌, ◌-◌, length, false, true, refl, rules, arith}
use Rattle.zed_delivery.specs.Things.{can_do}
use Rattle.zed_delivery.proofs.Arriving.{tells_done, tells_held}
use Rattle.zed_delivery.proofs.Stirring.{works_done, works_held}
use Rattle.zed_delivery.proofs.body.Body.bring.Goals as goal

pub returns-then-not-can-clause-tells : goal.returns-then-not-can-clause-tells
returns-then-not-can-clause-tells c =
    let cant : can_do c.args.self.now.live.boards c.args.self.now.texts c.args.edit.now ≡ false = search rules in
    tells_held c.args.edit.now c.args.self.now (record { held = true; woken = 0 }) c.requires.fits cant refl refl

pub returns-clause-tells : goal.returns-clause-tells
returns-clause-tells c =
    let can : can_do c.args.self.now.live.boards c.args.self.now.texts c.args.edit.now ≡ true = search rules in
    let left : (c.held-before.result - c.held.result) + length c.do_with_all.new.self.inbox ≡ length c.args.self.now.inbox = search rules in
    tells_done c.args.edit.now c.args.self.now c.do_with_all.new.self (record { held = false; woken = c.held-before.result - c.held.result }) c.requires.fits can c.in_ok-do_with_all.ensures.ok refl left

pub returns-then-not-can-clause-visits : goal.returns-then-not-can-clause-visits
returns-then-not-can-clause-visits c = works_held c.args.edit.now (record { held = true; woken = 0 }) c.args.self.now.texts c.hold_copy.new.self.texts refl c.hold_copy.ensures.texts

pub returns-clause-visits : goal.returns-clause-visits
returns-clause-visits c =
    let left : (c.held-before.result - c.held.result) + length c.do_with_all.new.self.inbox ≡ length c.args.self.now.inbox = search rules in
    works_done c.args.edit.now (record { held = false; woken = c.held-before.result - c.held.result }) c.args.self.now c.do_with_all.new.self refl
    (λ none. omega (arith, left, none)) c.in_ok-do_with_all.ensures.visits
