use Rattle.std.proofs.Common.{◌≡◌, IsSorted}
use Rattle.std.specs.Map.{keys_of}
use Rattle.zed_live.specs.Board.{stat_changed}
use Rattle.zed_live.specs.Boards.{board_name, board_cmp, change_all}
use Rattle.zed_live.proofs.Kept.{boards_here}
use Rattle.zed_live.proofs.Listed.{change_each}
use Rattle.zed_live.proofs.index.pass_each.Given as goal

-- once the boards from here on are changed, all are
abbrev pub invariant-loop-home : goal.invariant-loop-home
invariant-loop-home l = record {
  left : change_each board_name (stat_changed l.edit.stamp l.edit.op) (boards_here l.fn.stat l.home-iterator) l.entries.entries
      ≡ change_all (stat_changed l.edit.stamp l.edit.op) l.fn.entries.entries;
  sorted : IsSorted board_cmp (keys_of l.entries.entries);
}
