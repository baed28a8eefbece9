use Rattle.std.proofs.Common.{◌≡◌, ◌++◌, take}
use Rattle.std.specs.List.{flat_map}
use Rattle.cmd_page.specs.Escaping.{program_byte}
use Rattle.cmd_page.proofs.escaping.put_program.Given as goal

abbrev pub invariant-loop-byte : goal.invariant-loop-byte
invariant-loop-byte l = l.out.items ≡ l.fn.out.items ++ flat_map program_byte (take l.byte-index l.bytes)
