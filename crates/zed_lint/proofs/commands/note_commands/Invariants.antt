use Rattle.std.proofs.Common.{◌≡◌, ◌++◌}
use Rattle.zed_lint.specs.Commands.{along_line, fault_findings}
use Rattle.zed_lint.specs.Reading.{along}
use Rattle.zed_lint.proofs.commands.note_commands.Given as goal

-- what was found by now, with what is found from here on, is all
abbrev pub invariant-loop-left : goal.invariant-loop-left
invariant-loop-left l =
    l.found.items ++ along (fault_findings l.spot l.stats l.held l.set) l.program l.left l.next
    ≡ l.fn.found.items ++ along_line (fault_findings l.spot l.stats l.held l.set) l.program l.at

abbrev pub decreases-loop-left : goal.decreases-loop-left
decreases-loop-left l = l.left
