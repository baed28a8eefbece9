use Rattle.std.proofs.Common.{◌≡◌, [], drop}
use Rattle.zed_live.specs.BoardStats.{add_each}
use Rattle.zed_live.proofs.stats.stats_made.Given as goal

-- what was added so far, with what is left to add, is the whole
abbrev pub invariant-loop-stat : goal.invariant-loop-stat
invariant-loop-stat l = add_each (drop l.stat-index l.made) l.stats ≡ add_each l.made []
