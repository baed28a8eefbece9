use Rattle.std.proofs.Common.{◌≡◌, ◌++◌, drop}
use Rattle.zed_delivery.specs.Made.{stat_things}
use Rattle.zed_delivery.proofs.made.add_stats.Given as goal

-- what was added so far, with what is left, is the whole
abbrev pub invariant-loop-stat : goal.invariant-loop-stat
invariant-loop-stat l = l.things.items ++ stat_things (drop l.stat-index l.stats) ≡ l.fn.things.items ++ stat_things l.stats
