use Rattle.std.proofs.Common.{◌≡◌, ◌+◌, drop}
use Rattle.zed_code.specs.Runs.{sought}
use Rattle.zed_code.specs.Visits.{raised}
use Rattle.zed_code.proofs.place.find_in.Given as goal

abbrev pub invariant-loop-i : goal.invariant-loop-i
invariant-loop-i l = record {
  rest : l.i + sought l.stamp l.index (drop l.i l.runs) ≡ sought l.stamp l.index l.runs;
  looked : l.visits ≡ raised l.initial.visits l.i;
}
