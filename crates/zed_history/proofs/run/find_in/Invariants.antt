use Rattle.std.proofs.Common.{◌≡◌, None, take}
use Rattle.zed_history.specs.Runs.{found_in}
use Rattle.zed_history.proofs.run.find_in.Given as goal

abbrev pub invariant-loop-run : goal.invariant-loop-run
invariant-loop-run l = found_in l.stamp (take l.run-index l.runs) ≡ None
