use Rattle.std.proofs.Common.{ap, length, slice_get, sym, rules, arith}
use Rattle.zed_oop.specs.Making.{has_name, named}
use Rattle.zed_oop_syntax.proofs.LeastLemmas.{least_is}
use Rattle.zed_oop.proofs.making.named.Goals as goal

pub returns-then-has_name : goal.returns-then-has_name
unfolding named
returns-then-has_name c =
    let s = c.args.scene.now in
    sym (least_is (λ i. has_name s c.args.name.now i (slice_get s.stats i)) c.loop-i.i (length s.stats) c.loop-i.invariant (search rules) (omega (arith, ap length c.stats-i-end.ensures.result)))
