use Rattle.std.proofs.Common.{◌≡◌, ◌+◌, ◌-◌, drop}
use Rattle.zed_code.specs.Runs.{passed}
use Rattle.zed_code.specs.Visits.{raised}
use Rattle.zed_code.proofs.place.pass_in.Given as goal

abbrev pub invariant-loop-i : goal.invariant-loop-i
invariant-loop-i l = record {
  rest : l.i + passed l.stamp (drop l.i l.runs) ≡ l.from + passed l.stamp (drop l.from l.runs);
  looked : l.visits ≡ raised l.initial.visits (l.i - l.from);
}
