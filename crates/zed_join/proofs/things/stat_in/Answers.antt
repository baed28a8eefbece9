use Rattle.std.proofs.Common.{◌∙◌, sym}
use Rattle.zed_join.proofs.Sought.{passed, reached}
use Rattle.zed_join.proofs.things.stat_in.Goals as goal

pub returns-then-eq : goal.returns-then-eq
returns-then-eq c =
    sym (reached c.args.id c.args.home.now.stats c.loop-j.j c.at.result.0 c.at.result.1.now c.at.ensures (sym c.if-eq.ensures)) ∙ c.loop-j.invariant

pub loop-j-preserved : goal.loop-j-preserved
loop-j-preserved c =
    sym (passed c.args.id c.args.home.now.stats c.loop-j.j c.at.result.0 c.at.result.1.now c.at.ensures (sym c.if-eq.ensures)) ∙ c.loop-j.invariant
