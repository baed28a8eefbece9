use Rattle.std.proofs.Common.{◌≡◌, ◌++◌, drop}
use Rattle.zed_lint.specs.Found.{each_from}
use Rattle.zed_lint.specs.World.{board_findings, boards_findings}
use Rattle.zed_lint.proofs.linting.note_boards.Given as goal

-- what was found by now, with what is found of the rest, is all
abbrev pub invariant-loop-number : goal.invariant-loop-number
invariant-loop-number l =
    l.found.items ++ each_from (board_findings l.held l.set) l.number (drop l.number l.boards) ≡ l.fn.found.items ++ boards_findings l.held l.set l.boards
