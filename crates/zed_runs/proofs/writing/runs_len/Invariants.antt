use Rattle.std.proofs.Common.{◌≡◌, ◌≤◌, ◌+◌, ◌*◌, length}
use Rattle.zed_runs.specs.Runs.{greedy}
use Rattle.zed_runs.proofs.writing.runs_len.Given as goal

-- the bytes so far and those of the rest are all bytes
abbrev pub invariant-loop-tile : goal.invariant-loop-tile
invariant-loop-tile l = record {
  counted : l.bytes + length (greedy l.rest) ≡ length (greedy l.tiles);
  within : l.bytes + 3 * length l.rest ≤ 4500;
}

abbrev pub decreases-loop-tile : goal.decreases-loop-tile
decreases-loop-tile l = length l.rest
