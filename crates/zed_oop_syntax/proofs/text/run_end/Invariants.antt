use Rattle.std.proofs.Common.{◌≡◌, ◌-◌, ◌≤◌, length, max}
use Rattle.zed_oop_syntax.specs.Text.{run_end}
use Rattle.zed_oop_syntax.proofs.text.run_end.Given as goal

abbrev pub invariant-loop-to : goal.invariant-loop-to
invariant-loop-to l = record {
  same : run_end l.class l.program l.to ≡ run_end l.class l.program l.at;
  within : l.to ≤ max l.at (length l.program);
  after : l.at ≤ l.to;
}

abbrev pub decreases-loop-to : goal.decreases-loop-to
decreases-loop-to l = length l.program - l.to
