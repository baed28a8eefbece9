use Rattle.std.proofs.Common.{◌≡◌, ◌++◌, drop}
use Rattle.cmd_program.specs.Every.{each_from, every_text, programs_on}
use Rattle.cmd_program.proofs.every.boards_text.Given as goal

-- what was put by now, with what is put of the rest, is all
abbrev pub invariant-loop-number : goal.invariant-loop-number
invariant-loop-number l = l.text.items ++ each_from programs_on l.number (drop l.number l.boards) ≡ every_text l.boards
