use Rattle.std.proofs.Common.{◌≡◌, ◌++◌, take}
use Rattle.cmd_page.specs.Escaping.{escaped}
use Rattle.cmd_page.proofs.escaping.put_escaped.Given as goal

abbrev pub invariant-loop-byte : goal.invariant-loop-byte
invariant-loop-byte l = l.out.items ≡ l.fn.out.items ++ escaped (take l.byte-index l.bytes)
