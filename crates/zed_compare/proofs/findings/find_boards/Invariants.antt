use Rattle.std.proofs.Common.{◌≡◌, ◌++◌, drop}
use Rattle.std.specs.Prelude.{flat_map}
use Rattle.zed_compare.specs.Findings.{of_registers, shown_board_findings}
use Rattle.zed_compare.proofs.findings.find_boards.Given as goal

-- what was found by now, with what is found of the rest, is all
abbrev pub invariant-loop-i : goal.invariant-loop-i
invariant-loop-i l =
    of_registers l.found.items ++ flat_map (shown_board_findings l.views) (drop l.i l.views.union.boards)
    ≡ of_registers l.fn.found.items ++ flat_map (shown_board_findings l.views) l.views.union.boards
