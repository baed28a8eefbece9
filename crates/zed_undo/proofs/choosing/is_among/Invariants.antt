use Rattle.std.proofs.Common.{◌≡◌, drop}
use Rattle.zed_document.specs.Held.{is_among}
use Rattle.zed_undo.proofs.choosing.is_among.Given as goal

-- it is sought among the rest
abbrev pub invariant-loop-named : goal.invariant-loop-named
invariant-loop-named l = is_among (drop l.named-index l.stamps) l.stamp ≡ is_among l.stamps l.stamp
