use Rattle.zed_compare.specs.Registers.{place_of, same_place}
use Rattle.zed_compare.proofs.Read.{stat_read}
use Rattle.zed_compare.proofs.stats.in_place.Goals as goal

pub returns : goal.returns
returns c = λ w b x is.
    stat_read same_place (λ p. place_of) w b x c.args.stat.now c.place_in.result c.place_in-2.result c.place_in-3.result c.place_in-4.result c.overridden.result is
    (rw (← c.stat.view_is) (c.place_in.ensures x)) (rw (← c.stat.view_is) (c.place_in-2.ensures x)) (rw (← c.stat.view_is) (c.place_in-3.ensures x))
    (rw (← c.stat.view_is) (c.place_in-4.ensures x)) c.overridden.ensures
