use Rattle.std.proofs.Common.{◌≡◌, drop, min}
use Rattle.zed_oop_syntax.specs.Text.{number}
use Rattle.zed_oop_syntax.proofs.text.number_of.Given as goal

abbrev pub invariant-loop-digit : goal.invariant-loop-digit
invariant-loop-digit l = min (number l.n (drop l.digit-index l.digits)) 32767 ≡ min (number 0 l.digits) 32767
