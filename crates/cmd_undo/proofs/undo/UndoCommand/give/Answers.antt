use Rattle.std.proofs.Common.{◌≡◌}
use Rattle.std.proofs.lemmas.Result.{err_from_is_err_and}
use Rattle.cmd_take.proofs.Steps.{led_on}
use Rattle.cmd_undo.proofs.undo.UndoCommand.give.Goals as goal

pub after-requires-clause-sound : goal.after-requires-clause-sound
after-requires-clause-sound c = rw c.replace-stage.ensures.value c.requires.stands.2.0

pub after-requires-clause-next : goal.after-requires-clause-next
after-requires-clause-next c = rw c.replace-stage.ensures.value c.requires.next

pub returns-in_err-self-clause-stands : goal.returns-in_err-self-clause-stands
returns-in_err-self-clause-stands c = λ first files stands.
    let p = err_from_is_err_and c.from_residual.result c.from_residual.ensures.1 in
    let same : p.0 ≡ c.in_err-self.field-0.0 = p.2 in
    let leads = rw c.replace-stage.ensures.value at c.in_err-self.ensures.leads in
    rw (p.1, same) (stands.1.comes _ _ leads)

pub returns-clause-stands : goal.returns-clause-stands
returns-clause-stands c = λ first files stands.
    let leads = rw c.replace-stage.ensures.value at c.in_ok-self.ensures.leads in
    (leads.0, led_on files c.args.file _ _ _ _ _ _ stands.1 leads.1)

pub returns-clause-fewer : goal.returns-clause-fewer
returns-clause-fewer c = rw c.replace-stage.ensures.value at c.in_ok-self.ensures.fewer
