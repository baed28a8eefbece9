use Rattle.std.proofs.Common.{◌≡◌, ◌≤◌, ◌+◌, ◌-◌, ◌++◌, drop, vec_len}
use Rattle.std.specs.Vec.{vec_capacity}
use Rattle.zed_code.specs.Reading.{between, live, live_names, positions_behind}
use Rattle.zed_code.proofs.readers.push_names_in.Given as goal

-- the names so far and those of the rest are all, and so what is left of the positions; there is room for the rest
abbrev pub invariant-loop-run : goal.invariant-loop-run
invariant-loop-run l = record {
  made : l.out.items ++ between l.left (live_names (drop l.run-index l.runs)) ≡ l.fn.out.items ++ between l.fn.at (live_names l.runs);
  behind : positions_behind (live (drop l.run-index l.runs)) l.left ≡ positions_behind (live l.runs) l.fn.at;
  room : vec_len l.out + (l.left.to - l.left.from) ≤ vec_capacity l.out;
}
