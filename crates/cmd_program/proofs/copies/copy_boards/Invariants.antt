use Rattle.std.proofs.Common.{◌≡◌, take}
use Rattle.cmd_program.proofs.copies.copy_boards.Given as goal

abbrev pub invariant-loop-board : goal.invariant-loop-board
invariant-loop-board l = l.copies ≡ take l.board-index l.boards
