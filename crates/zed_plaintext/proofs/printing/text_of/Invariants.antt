use Rattle.std.proofs.Common.{◌≡◌, take}
use Rattle.std.specs.Prelude.{string_bytes}
use Rattle.zed_plaintext.specs.Text.{text_of}
use Rattle.zed_plaintext.proofs.printing.text_of.Given as goal

abbrev pub invariant-loop-byte : goal.invariant-loop-byte
invariant-loop-byte l = string_bytes l.text ≡ text_of (take l.byte-index l.program)
