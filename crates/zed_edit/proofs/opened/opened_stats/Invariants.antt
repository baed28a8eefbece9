use Rattle.std.proofs.Common.{◌≡◌, ◌++◌, drop}
use Rattle.zed_types.specs.Table.{map_from}
use Rattle.zed_edit.specs.Genesis.{opened_stat}
use Rattle.zed_edit.proofs.opened.opened_stats.Given as goal

abbrev pub invariant-loop-j : goal.invariant-loop-j
invariant-loop-j l =
    l.opened ++ map_from (opened_stat l.stamp l.m l.t l.board) l.j (drop l.j l.board.stats)
    ≡ map_from (opened_stat l.stamp l.m l.t l.board) 0 l.board.stats
