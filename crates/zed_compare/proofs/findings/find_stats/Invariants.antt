use Rattle.std.proofs.Common.{◌≡◌, ◌++◌, drop}
use Rattle.std.specs.Prelude.{flat_map}
use Rattle.zed_types.specs.declared.names.BoardId.{BoardId}
use Rattle.zed_live.specs.BoardStats.{shown_stats}
use Rattle.zed_compare.specs.Findings.{of_registers, shown_stat_findings}
use Rattle.zed_join.specs.Things.{IsBoard}
use Rattle.zed_compare.proofs.findings.find_stats.Given as goal

-- what was found by now, with what is found of the rest, is all
abbrev pub invariant-loop-j : goal.invariant-loop-j
invariant-loop-j l =
    (b : BoardId)
    → IsBoard l.views b l.board
    → of_registers l.found.items ++ flat_map (shown_stat_findings l.views b) (shown_stats (drop l.j l.shown.stats))
    ≡ of_registers l.fn.found.items ++ flat_map (shown_stat_findings l.views b) (shown_stats l.shown.stats)
