use Rattle.std.proofs.Common.{◌≡◌, ◌++◌, drop}
use Rattle.zed_log.specs.Boards.{board_lines}
use Rattle.zed_log.proofs.board_lines.lines_of.Given as goal

-- the lines so far, with those of the rest, are all
abbrev pub invariant-loop-number : goal.invariant-loop-number
invariant-loop-number l = l.text.items ++ board_lines l.ranks l.number (drop l.number l.boards) ≡ board_lines l.ranks 0 l.boards
