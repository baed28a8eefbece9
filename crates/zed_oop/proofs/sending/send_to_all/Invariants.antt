use Rattle.std.proofs.Common.{◌≡◌, false}
use Rattle.zed_oop.specs.Sending.{for_each, send_one, so_far}
use Rattle.zed_oop.proofs.sending.send_to_all.Given as goal

abbrev pub invariant-loop-i : goal.invariant-loop-i
invariant-loop-i l = so_far l.scene l.own ≡ for_each (send_one l.word) l.i (so_far l.fn.scene false)
