use Rattle.std.proofs.Common.{List, sym, subst}
use Rattle.zed_op.specs.declared.op.Edit.{Edit}
use Rattle.zed_delivery.specs.Steps.{IsTried}
use Rattle.zed_delivery.proofs.BodySteps.{tried_done}
use Rattle.zed_op.specs.Set.{AllFit}
use Rattle.zed_delivery.proofs.Fewer.{fit_one_more}
use Rattle.zed_delivery.proofs.Stirring.{stirs_done}
use Rattle.zed_delivery.proofs.body.Body.do_and_add.Goals as goal

pub returns-clause-ok : goal.returns-clause-ok
returns-clause-ok c =
    let P : List Edit → Type 0 = λ ds. IsTried c.args.edit c.args.self.now c.args.done.now.items c.do_one.new.self ds in
    subst P (sym c.in_ok-add.ensures.ok) (tried_done c.args.edit c.args.self.now c.do_one.new.self c.args.done.now.items c.in_ok-do_one.ensures.ok)

pub returns-clause-fits : goal.returns-clause-fits
returns-clause-fits c =
    let P : List Edit → Type 0 = λ ds. AllFit c.args.done.now.items → AllFit ds in
    subst P (sym c.in_ok-add.ensures.ok) (fit_one_more c.args.edit c.args.self.now c.args.done.now.items c.requires.hand)

pub returns-clause-visits : goal.returns-clause-visits
returns-clause-visits c =
    stirs_done c.args.edit c.args.self.now c.do_one.new.self c.requires.hand c.in_ok-do_one.ensures.runs c.do_one.ensures.inbox
