use Rattle.std.proofs.Common.{◌<◌, ◌++◌, ◌∷◌, [], length, vec_capacity}
use Rattle.zed_history.specs.Runs.{SettleTo}
use Rattle.zed_history.proofs.run.settle.Given as goal

abbrev pub invariant-loop-below : goal.invariant-loop-below
invariant-loop-below l = record {
  settles : SettleTo (l.fn.settled.items ++ l.fn.ended.items ∷ []) (l.settled.items ++ l.edits.items ∷ []);
  free : length l.settled.items < vec_capacity l.settled;
}

abbrev pub decreases-loop-below : goal.decreases-loop-below
decreases-loop-below l = length l.settled.items
