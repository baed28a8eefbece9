use Rattle.std.proofs.Common.{drop}
use Rattle.zed_live.specs.Listed.{Homes, StayListed, AreOn}
use Rattle.zed_live.proofs.index.list_stats.Given as goal

-- once the stats from here on are listed too, all are
abbrev pub invariant-loop-stat : goal.invariant-loop-stat
invariant-loop-stat l = record {
  kept : StayListed l.fn.homes l.homes;
  left : (more : Homes) → StayListed l.homes more → AreOn l.board (drop l.stat-index l.stats) more → AreOn l.board l.stats more;
}
