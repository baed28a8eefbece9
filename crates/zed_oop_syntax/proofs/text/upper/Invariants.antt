use Rattle.std.proofs.Common.{◌≡◌, take}
use Rattle.zed_oop_syntax.specs.Text.{upper}
use Rattle.zed_oop_syntax.proofs.text.upper.Given as goal

abbrev pub invariant-loop-byte : goal.invariant-loop-byte
invariant-loop-byte l = l.out.items ≡ upper (take l.byte-index l.bytes)
