use Rattle.std.proofs.Common.{◌≡◌, ◌+◌, ◌≤◌, ◌++◌, not, length, drop, []}
use Rattle.std.specs.Prelude.{filter}
use Rattle.std.specs.List.{AllByRecursion}
use Rattle.zed_edit.specs.Numbers.{alive_stats}
use Rattle.zed_view.specs.View.{board_at}
use Rattle.zed_export.specs.World.{exported_above}
use Rattle.zed_export.specs.Fields.{FitsStat, IsOwned}
use Rattle.zed_export.proofs.board.stats_of.Given as goal

-- the stats so far, with those of the rest above them, are all
abbrev pub invariant-loop-j : goal.invariant-loop-j
invariant-loop-j l =
    let b = board_at l.view l.i in
    let left = filter (λ s. not s.removed) (drop l.j b.stats) in
    record {
      completes : l.out.items ++ exported_above l.view b l.texts.items left ≡ exported_above l.view b [] (alive_stats b);
      room : length l.texts.items + length left ≤ 151;
      each : length l.out.items ≡ length l.texts.items;
      owned : IsOwned l.view l.texts.items l.out.items;
      fits : AllByRecursion FitsStat l.out.items;
    }
