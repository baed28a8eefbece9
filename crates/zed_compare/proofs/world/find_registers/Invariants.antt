use Rattle.std.proofs.Common.{◌≡◌, ◌++◌, drop}
use Rattle.std.specs.Prelude.{filter_map}
use Rattle.zed_compare.specs.Findings.{world_finding}
use Rattle.zed_compare.proofs.world.find_registers.Given as goal

-- what was found by now, with what is found of the rest, is all
abbrev pub invariant-loop-register : goal.invariant-loop-register
invariant-loop-register l =
    l.found.items ++ filter_map (world_finding l.views) (drop l.register-index l.registers) ≡ l.fn.found.items ++ filter_map (world_finding l.views) l.registers
