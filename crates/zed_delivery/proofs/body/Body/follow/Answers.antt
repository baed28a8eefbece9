use Rattle.std.proofs.Common.{List, [], sym, subst}
use Rattle.zed_op.specs.declared.thing.Thing.{Thing}
use Rattle.zed_delivery.specs.Waking.{AreToWake, AreWoken}
use Rattle.zed_delivery.proofs.Waking.{to_wake, is_followed}
use Rattle.zed_delivery.proofs.body.Body.follow.Goals as goal

pub wake_all-requires : goal.wake_all-requires
wake_all-requires c =
    let P : List Thing → Type 0 = λ xs. AreToWake xs c.args.done.now.items c.args.self.now in
    subst P (sym c.in_ok-things.ensures.ok) (to_wake c.args.edit.now c.args.done.now.items c.args.self.now c.requires.last)

pub returns-clause-ok : goal.returns-clause-ok
returns-clause-ok c =
    let P : List Thing → Type 0 =
    λ xs. AreWoken xs c.args.self.now c.args.done.now.items [] c.wake_all.new.self c.wake_all.new.done.items in
    is_followed c.args.edit.now c.args.done.now.items c.wake_all.new.done.items c.args.self.now c.wake_all.new.self
    (subst P c.in_ok-things.ensures.ok c.in_ok-wake_all.ensures.ok)
