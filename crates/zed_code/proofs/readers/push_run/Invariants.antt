use Rattle.std.proofs.Common.{◌≡◌, ◌≤◌, ◌+◌, ◌-◌, ◌++◌, vec_len}
use Rattle.std.specs.Vec.{vec_capacity}
use Rattle.zed_code.specs.Reading.{names_from}
use Rattle.zed_code.proofs.readers.push_run.Given as goal

-- the names so far and those of the rest are all, by their number too, and there is no less room than before
abbrev pub invariant-loop-i : goal.invariant-loop-i
invariant-loop-i l = record {
  made : l.out.items ++ names_from l.run.stamp (l.run.first + l.i) (l.to - l.i) ≡ l.fn.out.items ++ names_from l.run.stamp (l.run.first + l.from) (l.to - l.from);
  used : vec_len l.out + (l.to - l.i) ≡ vec_len l.fn.out + (l.to - l.from);
  capacity : vec_capacity l.fn.out ≤ vec_capacity l.out;
}
