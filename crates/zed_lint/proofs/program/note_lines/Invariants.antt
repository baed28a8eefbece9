use Rattle.std.proofs.Common.{◌≡◌, ◌++◌, drop}
use Rattle.zed_lint.specs.Found.{each_from}
use Rattle.zed_lint.specs.Program.{lines_findings, place_findings}
use Rattle.zed_lint.proofs.program.note_lines.Given as goal

-- what was found by now, with what is found of the rest, is all
abbrev pub invariant-loop-at : goal.invariant-loop-at
invariant-loop-at l =
    l.found.items ++ each_from (place_findings l.spot l.stats l.held l.set l.program) l.at (drop l.at l.program)
    ≡ l.fn.found.items ++ lines_findings l.spot l.stats l.held l.set l.program
