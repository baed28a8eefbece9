use Rattle.std.proofs.Common.{◌≡◌, ◌++◌, drop}
use Rattle.std.specs.Prelude.{filter_map}
use Rattle.zed_types.specs.declared.names.BoardId.{BoardId}
use Rattle.zed_compare.specs.Findings.{stat_finding}
use Rattle.zed_join.specs.Things.{IsStat}
use Rattle.zed_compare.proofs.stats.find_registers.Given as goal

-- what was found by now, with what is found of the rest, is all
abbrev pub invariant-loop-register : goal.invariant-loop-register
invariant-loop-register l =
    (b : BoardId)
    → IsStat l.views b l.id l.stat
    → l.found.items ++ filter_map (stat_finding l.views b l.id) (drop l.register-index l.registers)
    ≡ l.fn.found.items ++ filter_map (stat_finding l.views b l.id) l.registers
