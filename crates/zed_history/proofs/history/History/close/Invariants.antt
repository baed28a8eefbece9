use Rattle.std.proofs.Common.{◌≡◌, ◌≤◌, ◌+◌, ◌∷◌, length, vec_capacity}
use Rattle.zed_history.specs.Runs.{AreRuns, count_in, joined}
use Rattle.zed_history.proofs.history.History.close.Given as goal

abbrev pub invariant-loop-ended : goal.invariant-loop-ended
invariant-loop-ended l = record {
  runs : AreRuns (l.log.items ∷ l.settled.items);
  whole : joined (l.log.items ∷ l.settled.items) ≡ l.fn.self;
  room : length l.log.items + count_in l.settled.items ≤ vec_capacity l.log;
}

abbrev pub decreases-loop-ended : goal.decreases-loop-ended
decreases-loop-ended l = length l.settled.items
