use Rattle.std.proofs.Common.{◌≡◌, ◌≤◌, ◌+◌, drop}
use Rattle.zed_code.specs.Kept.{total}
use Rattle.zed_code.specs.Reading.{live}
use Rattle.zed_code.proofs.readers.count_in.Given as goal

abbrev pub invariant-loop-run : goal.invariant-loop-run
invariant-loop-run l = record {
  rest : l.count + live (drop l.run-index l.runs) ≡ live l.runs;
  room : l.count + total (drop l.run-index l.runs) ≤ total l.runs;
}
