use Rattle.std.proofs.Common.{subst}
use Rattle.zed_op.specs.declared.op.Edit.{Edit}
use Rattle.zed_delivery.specs.Steps.{IsHeldBack}
use Rattle.zed_delivery.proofs.Arriving.{shown_held}
use Rattle.zed_delivery.proofs.body.Body.hold_copy.Goals as goal

pub returns-clause-ok : goal.returns-clause-ok
returns-clause-ok c =
    let P : Edit → Type 0 = λ e. IsHeldBack e c.args.self.now c.hold_one.new.self in
    shown_held c.args.edit.now c.args.self.now c.hold_one.new.self c.requires.fits (subst P c.in-Ok.ensures.ok c.in_ok-hold_one.ensures.ok)
