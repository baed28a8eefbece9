use Rattle.zed_compare.specs.Registers.{step_of, same_step}
use Rattle.zed_compare.proofs.Read.{stat_read}
use Rattle.zed_compare.proofs.stats.in_step.Goals as goal

pub returns : goal.returns
returns c = λ w b x is.
    stat_read same_step (λ p. step_of) w b x c.args.stat.now c.step_in.result c.step_in-2.result c.step_in-3.result c.step_in-4.result c.overridden.result is
    (rw (← c.stat.view_is) (c.step_in.ensures x)) (rw (← c.stat.view_is) (c.step_in-2.ensures x)) (rw (← c.stat.view_is) (c.step_in-3.ensures x))
    (rw (← c.stat.view_is) (c.step_in-4.ensures x)) c.overridden.ensures
