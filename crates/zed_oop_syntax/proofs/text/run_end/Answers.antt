use Rattle.std.proofs.Common.{◌∙◌, sym, rules, arith}
use Rattle.zed_oop_syntax.proofs.TextLemmas.{run_at_end, run_more, run_stops}
use Rattle.zed_oop_syntax.proofs.text.run_end.Goals as goal

pub loop-to-preserved : goal.loop-to-preserved
loop-to-preserved c = record {
  same = run_more c.args.class c.args.program.now c.loop-to.to (omega arith) (search rules) ∙ c.loop-to.invariant.same;
  within = omega arith;
  after = omega arith;
}

pub returns-else-is_of-clause-result : goal.returns-else-is_of-clause-result
returns-else-is_of-clause-result c =
    sym (run_stops c.args.class c.args.program.now c.loop-to.to (omega arith) (search rules)) ∙ c.loop-to.invariant.same

pub returns-after-loop-to-clause-result : goal.returns-after-loop-to-clause-result
returns-after-loop-to-clause-result c =
    sym (run_at_end c.args.class c.args.program.now c.loop-to.to (omega arith)) ∙ c.loop-to.invariant.same
