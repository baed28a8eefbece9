use Rattle.std.proofs.Common.{ℕ, ◌-◌, ◌≤◌, Bool, length, max}
use Rattle.zed_oop_syntax.specs.declared.conditions.Test.{Test}
use Rattle.zed_oop_syntax.specs.Condition.{ConditionAt, flipped}
use Rattle.zed_oop_syntax.proofs.conditions.condition.Given as goal

abbrev pub invariant-loop-test : goal.invariant-loop-test
invariant-loop-test l = record {
  so_far : (b : Bool) (t : Test) (e : ℕ) → ConditionAt l.program l.to b t e → ConditionAt l.program l.fn.at (flipped l.negated b) t e;
  within : l.to ≤ max l.fn.at (length l.program);
  after : l.fn.at ≤ l.to;
}

abbrev pub decreases-loop-test : goal.decreases-loop-test
decreases-loop-test l = length l.program - l.to
