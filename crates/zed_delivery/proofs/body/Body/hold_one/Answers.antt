use Rattle.std.proofs.Common.{◌≤◌, ◌+◌, List, length, refl, sym, subst}
use Rattle.zed_delivery.proofs.BodySteps.{is_held_back}
use Rattle.zed_op.specs.declared.op.Edit.{Edit}
use Rattle.zed_delivery.proofs.Fewer.{one_longer}
use Rattle.zed_delivery.proofs.body.Body.hold_one.Goals as goal

pub returns-clause-ok : goal.returns-clause-ok
returns-clause-ok c =
    is_held_back c.args.edit c.args.self.now (record c.args.self.now { inbox = c.hold.new.self }) c.requires refl refl c.in_ok-hold.ensures.ok

pub returns-clause-few : goal.returns-clause-few
returns-clause-few c =
    let P : List Edit → Type 0 = λ w. length w ≤ length c.args.self.now.inbox + 1 in
    subst P (sym c.in_ok-hold.ensures.ok) (one_longer c.args.edit c.args.self.now.inbox)
