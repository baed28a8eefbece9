use Rattle.std.proofs.Common.{◌≡◌, ◌++◌, drop}
use Rattle.zed_types.specs.Text.{run_from}
use Rattle.zed_edit.proofs.text.run_of.Given as goal

abbrev pub invariant-loop-i : goal.invariant-loop-i
invariant-loop-i l = l.run.items ++ run_from l.stamp l.i (drop l.i l.bytes) ≡ run_from l.stamp 0 l.bytes
