use Rattle.std.proofs.Common.{◌≡◌, ◌+◌, List, length, refl, sym, subst}
use Rattle.zed_op.specs.declared.op.Edit.{Edit}
use Rattle.zed_delivery.specs.Steps.{IsReleased}
use Rattle.zed_delivery.proofs.BodySteps.{is_released}
use Rattle.zed_inbox.specs.Waiting.{naming}
use Rattle.zed_delivery.proofs.Fewer.{as_many}
use Rattle.zed_delivery.proofs.body.Body.release.Goals as goal

pub returns-clause-ok : goal.returns-clause-ok
returns-clause-ok c =
    let after = record c.args.self.now { inbox = c.release.new.self } in
    let P : List Edit → Type 0 = λ es. IsReleased c.args.thing es c.args.self.now after in
    subst P (sym c.in_ok-edits.ensures.ok) (is_released c.args.thing c.args.self.now after refl refl c.in_ok-edits.ensures.others)

pub returns-clause-few : goal.returns-clause-few
returns-clause-few c =
    let all = length c.args.self.now.inbox in
    let P : List Edit → Type 0 = λ es. length es + length c.release.new.self ≡ all in
    let Q : List Edit → Type 0 = λ w. length (naming c.args.thing c.args.self.now.inbox) + length w ≡ all in
    subst P (sym c.in_ok-edits.ensures.ok) (subst Q (sym c.in_ok-edits.ensures.others) (as_many c.args.thing c.args.self.now.inbox))
