use Rattle.std.proofs.Common.{Err, ap, inl}
use Rattle.std.proofs.lemmas.Result.{err_from_is_err_and}
use Rattle.cmd_take.proofs.OpenSteps.{written_led}
use Rattle.cmd_take.proofs.open.Open.done.Goals as goal

pub returns-in_err-effect-clause-leads : goal.returns-in_err-effect-clause-leads
returns-in_err-effect-clause-leads c =
    let p = err_from_is_err_and c.from_residual.result c.from_residual.ensures.1 in
    rw p.1 (inl (ap (λ x. Err x) p.2))

pub returns-clause-leads : goal.returns-clause-leads
returns-clause-leads c =
    let d = c.args.document.now in (tt, written_led c.args.self.now.world.now (d.world, d.edits) c.args.text.items c.in_ok-effect.effect c.in_ok-effect.ensures)
