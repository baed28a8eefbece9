use Rattle.std.proofs.Common.{◌≤◌, length}
use Rattle.zed_system.specs.declared.reading.TheConstants.{MOST}
use Rattle.zed_system.proofs.reading.read_whole.Given as goal

-- never too many
abbrev pub invariant-loop : goal.invariant-loop
invariant-loop g l = length l.bytes.items ≤ MOST
