use Rattle.std.proofs.Common.{◌≡◌, ◌++◌, drop}
use Rattle.zed_terminal.specs.Record.{moves_from, moves_in}
use Rattle.zed_terminal.proofs.record.moves_in.Given as goal

-- the moves so far, before those that are left, are all
abbrev pub invariant-loop-byte : goal.invariant-loop-byte
invariant-loop-byte l = l.moves.items ++ moves_from l.spelt (drop l.byte-index l.bytes) ≡ moves_in l.bytes
