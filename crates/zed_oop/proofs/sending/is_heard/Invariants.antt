use Rattle.std.proofs.Common.{◌≡◌, false}
use Rattle.zed_oop.specs.Sending.{for_each, or_heard_by}
use Rattle.zed_oop.proofs.sending.is_heard.Given as goal

abbrev pub invariant-loop-i : goal.invariant-loop-i
invariant-loop-i l = l.heard ≡ for_each (or_heard_by l.word l.scene) l.i false
