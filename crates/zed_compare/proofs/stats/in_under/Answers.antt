use Rattle.zed_compare.specs.Registers.{under_of, same_tile}
use Rattle.zed_compare.proofs.Read.{stat_read}
use Rattle.zed_compare.proofs.stats.in_under.Goals as goal

pub returns : goal.returns
returns c = λ w b x is.
    stat_read same_tile (λ p. under_of) w b x c.args.stat.now c.under_in.result c.under_in-2.result c.under_in-3.result c.under_in-4.result c.overridden.result is
    (rw (← c.stat.view_is) (c.under_in.ensures x)) (rw (← c.stat.view_is) (c.under_in-2.ensures x)) (rw (← c.stat.view_is) (c.under_in-3.ensures x))
    (rw (← c.stat.view_is) (c.under_in-4.ensures x)) c.overridden.ensures
