use Rattle.std.proofs.Common.{◌≡◌, ◌++◌, drop, length}
use Rattle.zed_play.specs.Opening.{stats_from}
use Rattle.zed_play.proofs.opening.stats_of.Given as goal

abbrev pub invariant-loop-stat : goal.invariant-loop-stat
invariant-loop-stat l = l.out ++ stats_from (length l.out) (drop l.stat-index l.stats) ≡ stats_from 0 l.stats
