use Rattle.std.proofs.Common.{◌≡◌, drop}
use Rattle.zed_code.specs.Reading.{live_at}
use Rattle.zed_code.proofs.readers.live_in.Given as goal

abbrev pub invariant-loop-run : goal.invariant-loop-run
invariant-loop-run l = live_at (drop l.run-index l.runs) l.left ≡ live_at l.runs l.k
