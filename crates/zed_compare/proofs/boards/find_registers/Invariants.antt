use Rattle.std.proofs.Common.{◌≡◌, ◌++◌, drop}
use Rattle.std.specs.Prelude.{filter_map}
use Rattle.zed_compare.specs.Findings.{board_finding}
use Rattle.zed_compare.proofs.boards.find_registers.Given as goal

-- what was found by now, with what is found of the rest, is all
abbrev pub invariant-loop-register : goal.invariant-loop-register
invariant-loop-register l =
    l.found.items ++ filter_map (board_finding l.views l.id) (drop l.register-index l.registers) ≡ l.fn.found.items ++ filter_map (board_finding l.views l.id) l.registers
