use Rattle.std.proofs.Common.{◌≡◌, ◌++◌, drop}
use Rattle.cmd_program.specs.Every.{each_from, program_lines, programs_on}
use Rattle.cmd_program.proofs.every.put_board.Given as goal

-- what was put by now, with what is put of the rest, is all
abbrev pub invariant-loop-i : goal.invariant-loop-i
invariant-loop-i l = l.out.items ++ each_from (program_lines l.number l.board) l.i (drop l.i l.board.stats) ≡ l.fn.out.items ++ programs_on l.number l.board
