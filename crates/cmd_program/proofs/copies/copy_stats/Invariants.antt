use Rattle.std.proofs.Common.{◌≡◌, take}
use Rattle.cmd_program.proofs.copies.copy_stats.Given as goal

abbrev pub invariant-loop-stat : goal.invariant-loop-stat
invariant-loop-stat l = l.copies ≡ take l.stat-index l.stats
