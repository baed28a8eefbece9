use Rattle.std.proofs.Common.{◌≡◌, ◌++◌, take}
use Rattle.zed_terminal.specs.Record.{spelled_moves}
use Rattle.zed_terminal.proofs.record.put_moves.Given as goal

-- the moves so far are there
abbrev pub invariant-loop-made : goal.invariant-loop-made
invariant-loop-made l = l.out.items ≡ l.fn.out.items ++ spelled_moves (take l.made-index l.moves)
