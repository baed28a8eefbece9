use Rattle.std.proofs.Common.{length, sym, rules, arith}
use Rattle.zed_oop_syntax.specs.Label.{first_label, label_at}
use Rattle.zed_oop_syntax.proofs.LeastLemmas.{least_is}
use Rattle.zed_oop_syntax.proofs.labels.first_label.Goals as goal

pub returns-then-label_at-clause-result : goal.returns-then-label_at-clause-result
unfolding first_label
returns-then-label_at-clause-result c =
    sym (least_is (label_at 58 c.args.program.now c.args.label.now) c.loop-at.at (length c.args.program.now) c.loop-at.invariant (search rules) (omega arith))
