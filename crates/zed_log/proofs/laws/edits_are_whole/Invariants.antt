use Rattle.std.proofs.Common.{take}
use Rattle.zed_log.specs.Laws.{AreWhole}
use Rattle.zed_log.proofs.laws.edits_are_whole.Given as goal

abbrev pub invariant-loop-edit : goal.invariant-loop-edit
invariant-loop-edit l = AreWhole (take l.edit-index l.edits)
