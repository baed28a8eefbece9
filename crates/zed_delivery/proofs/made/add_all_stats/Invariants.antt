use Rattle.std.proofs.Common.{◌≡◌, ◌++◌, drop}
use Rattle.zed_delivery.specs.Made.{all_stat_things}
use Rattle.zed_delivery.proofs.made.add_all_stats.Given as goal

-- what was added so far, with what is left, is the whole
abbrev pub invariant-loop-board : goal.invariant-loop-board
invariant-loop-board l = l.things.items ++ all_stat_things (drop l.board-index l.boards) ≡ l.fn.things.items ++ all_stat_things l.boards
