use Rattle.std.proofs.Common.{◌≡◌, ◌++◌, drop}
use Rattle.zed_lint.specs.Found.{each_from}
use Rattle.zed_lint.specs.Stats.{stat_findings, stats_findings}
use Rattle.zed_lint.proofs.stats.note_stats.Given as goal

-- what was found by now, with what is found of the rest, is all
abbrev pub invariant-loop-i : goal.invariant-loop-i
invariant-loop-i l =
    l.found.items ++ each_from (stat_findings l.held l.set l.number l.board) l.i (drop l.i l.board.stats)
    ≡ l.fn.found.items ++ stats_findings l.held l.set l.number l.board
