use Rattle.std.proofs.Common.{ℕ, ◌++◌, ◌-◌, ◌≤◌, List, Option, length, max}
use Rattle.zed_oop_syntax.specs.declared.heading.Course.{Course}
use Rattle.zed_oop_syntax.specs.declared.heading.Turning.{Turning}
use Rattle.zed_oop_syntax.specs.Heading.{HeadingAt}
use Rattle.zed_oop_syntax.proofs.heading.direction.Given as goal

abbrev pub invariant-loop-turning : goal.invariant-loop-turning
invariant-loop-turning l = record {
  so_far : (ts : List Turning) (c : Option Course) (e : ℕ) → HeadingAt l.program l.to ts c e → HeadingAt l.program l.fn.at (l.turns ++ ts) c e;
  within : l.to ≤ max l.fn.at (length l.program);
  after : l.fn.at ≤ l.to;
}

abbrev pub decreases-loop-turning : goal.decreases-loop-turning
decreases-loop-turning l = length l.program - l.to
