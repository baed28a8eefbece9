use Rattle.std.proofs.Common.{ℕ, ◌-◌, ◌≤◌, length, max}
use Rattle.zed_oop_syntax.specs.Command.{BehindThen}
use Rattle.zed_oop_syntax.proofs.commands.next_word.Given as goal

abbrev pub invariant-loop-word : goal.invariant-loop-word
invariant-loop-word l = record {
  so_far : (e : ℕ) → BehindThen l.program l.from e → BehindThen l.program l.fn.at e;
  within : l.from ≤ max l.fn.at (length l.program);
  after : l.fn.at ≤ l.from;
}

abbrev pub decreases-loop-word : goal.decreases-loop-word
decreases-loop-word l = length l.program - l.from
