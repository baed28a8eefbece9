use Rattle.std.proofs.Common.{◌≡◌, drop}
use Rattle.zed_laws.specs.Winners.{find_stat}
use Rattle.zed_live.specs.BoardStats.{shown_stats}
use Rattle.zed_join.proofs.things.stat_in.Given as goal

-- the stat is sought among the rest
abbrev pub invariant-loop-j : goal.invariant-loop-j
invariant-loop-j l = find_stat l.id (shown_stats (drop l.j l.home.stats)) ≡ find_stat l.id (shown_stats l.home.stats)
