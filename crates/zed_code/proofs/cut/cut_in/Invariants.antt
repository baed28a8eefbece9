use Rattle.std.proofs.Common.{◌≡◌, ◌≤◌, ◌+◌, ◌-◌, ◌++◌, true, length, take, drop, vec_len, vec_capacity}
use Rattle.std.specs.List.{AllByRecursion, list_any}
use Rattle.zed_code.specs.Runs.{kill_runs, reaches, touched}
use Rattle.zed_code.specs.Kept.{IsSound, AllInOrder}
use Rattle.zed_code.specs.Visits.{raised}
use Rattle.zed_code.proofs.cut.cut_in.Given as goal

abbrev pub invariant-loop-i : goal.invariant-loop-i
invariant-loop-i l = record {
  within : l.i ≤ vec_len l.runs;
  rest : take l.i l.runs.items ++ kill_runs l.range (drop l.i l.runs.items) ≡ kill_runs l.range l.initial.runs.items;
  room : l.i + length (kill_runs l.range (drop l.i l.runs.items)) ≤ vec_capacity l.runs;
  sound : AllByRecursion IsSound (drop l.i l.runs.items);
  ordered : AllInOrder (drop l.i l.runs.items);
  left : vec_len l.runs - l.i ≤ vec_len l.initial.runs - l.start;
  looked : l.visits ≡ raised l.initial.visits (vec_len l.initial.runs - l.start - (vec_len l.runs - l.i));
  seen : raised l.initial.visits (touched l.range l.initial.runs.items) ≤ raised l.visits (touched l.range (drop l.i l.runs.items));
  ends : list_any (reaches l.range) (drop l.i l.runs.items) ≡ true → list_any (reaches l.range) l.initial.runs.items ≡ true;
}

abbrev pub decreases-loop-i : goal.decreases-loop-i
decreases-loop-i l = vec_len l.runs - l.i
