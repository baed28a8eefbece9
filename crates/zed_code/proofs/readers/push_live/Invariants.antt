use Rattle.std.proofs.Common.{◌≡◌, ◌≤◌, ◌+◌, ◌++◌, drop, vec_len}
use Rattle.std.specs.Vec.{vec_capacity}
use Rattle.zed_types.specs.Text.{alive_bytes}
use Rattle.zed_code.specs.Cutting.{spelled}
use Rattle.zed_code.specs.Reading.{live}
use Rattle.zed_code.proofs.readers.push_live.Given as goal

-- the live bytes so far and those of the rest are all, in their order and by their number, and there is no less room than before
abbrev pub invariant-loop-run : goal.invariant-loop-run
invariant-loop-run l = record {
  made : l.out.items ++ alive_bytes (spelled l.store (drop l.run-index l.runs)) ≡ l.fn.out.items ++ alive_bytes (spelled l.store l.runs);
  used : vec_len l.out + live (drop l.run-index l.runs) ≡ vec_len l.fn.out + live l.runs;
  capacity : vec_capacity l.fn.out ≤ vec_capacity l.out;
}
