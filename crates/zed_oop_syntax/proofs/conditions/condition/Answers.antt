use Rattle.std.proofs.Common.{◌<◌, Bool, false, not, subst, arith}
use Rattle.zed_oop_syntax.specs.Condition.{ConditionAt}
use Rattle.zed_oop_syntax.proofs.ConditionLemmas.{first_not, flipped_false, flipped_not, last_test, not_moves, test_takes}
use Rattle.std.proofs.lemmas.Result.{err_from_is_err_and}
use Rattle.zed_oop_syntax.proofs.conditions.condition.Goals as goal

pub loop-test-smaller : goal.loop-test-smaller
loop-test-smaller c =
    let moves : c.loop-test.to < c.in_ok-test.end =
    not_moves c.args.program.now c.loop-test.to c.in_ok-test.test c.in_ok-test.end c.in_ok-test.ensures.result c.in-None.is in
    let within = c.in_ok-test.ensures.within in
    omega arith

pub loop-test-preserved : goal.loop-test-preserved
loop-test-preserved c = record {
  so_far = λ b t e rest.
      let P : Bool → Type 0 = λ x. ConditionAt c.args.program.now c.args.at x t e in
      subst P (flipped_not c.loop-test.negated b)
      (c.loop-test.invariant.so_far (not b) t e
      (first_not c.args.program.now c.loop-test.to c.in_ok-test.test c.in_ok-test.end b t e c.in_ok-test.ensures.result c.in-None.is rest));
  within = (let a = c.in_ok-test.ensures.within in let b = c.loop-test.invariant.within in omega arith);
  after = (let a = c.in_ok-test.ensures.ends in omega arith);
}

pub returns-in-Some-clause-result : goal.returns-in-Some-clause-result
returns-in-Some-clause-result c =
    let P : Bool → Type 0 = λ x. ConditionAt c.args.program.now c.args.at x c.in-Some.test c.in_ok-test.end in
    subst P (flipped_false c.loop-test.negated)
    (c.loop-test.invariant.so_far false c.in-Some.test c.in_ok-test.end
    (last_test c.args.program.now c.loop-test.to c.in_ok-test.test c.in-Some.test c.in_ok-test.end c.in_ok-test.ensures.result c.in-Some.is))

pub returns-in_err-test-clause-memory_only_when : goal.returns-in_err-test-clause-memory_only_when
returns-in_err-test-clause-memory_only_when c =
    let p = err_from_is_err_and c.from_residual.result c.from_residual.ensures.1 in
    rw p.1
    (test_takes c.args.program.now c.args.at c.loop-test.to c.loop-test.negated c.loop-test.invariant.so_far c.in_err-test.ensures.memory_only_when)
