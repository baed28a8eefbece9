use Rattle.std.proofs.Common.{◌≡◌, None, take}
use Rattle.zed_history.specs.Runs.{found_in}
use Rattle.zed_history.proofs.run.seek_in.Given as goal

abbrev pub invariant-loop-run : goal.invariant-loop-run
invariant-loop-run l = record {
  kept : l.runs ≡ l.initial.runs;
  none : found_in l.stamp (take l.run-index l.initial.runs) ≡ None;
}
