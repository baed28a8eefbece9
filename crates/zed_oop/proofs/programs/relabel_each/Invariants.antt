use Rattle.std.proofs.Common.{◌≡◌}
use Rattle.zed_oop.specs.Sending.{for_each, relabel_one}
use Rattle.zed_oop.proofs.programs.relabel_each.Given as goal

abbrev pub invariant-loop-i : goal.invariant-loop-i
invariant-loop-i l = l.scene ≡ for_each (relabel_one l.relabelling l.word) l.i l.fn.scene
