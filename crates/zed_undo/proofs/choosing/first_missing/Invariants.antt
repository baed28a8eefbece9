use Rattle.std.proofs.Common.{◌≡◌, drop}
use Rattle.zed_undo.specs.Choosing.{first_missing}
use Rattle.zed_undo.proofs.choosing.first_missing.Given as goal

-- it is sought among the rest
abbrev pub invariant-loop-stamp : goal.invariant-loop-stamp
invariant-loop-stamp l = first_missing l.document.edits (drop l.stamp-index l.stamps) ≡ first_missing l.document.edits l.stamps
