use Rattle.std.proofs.Common.{◌≡◌, take, map}
use Rattle.std.specs.List.{AllByRecursion}
use Rattle.zed_view.specs.View.{board_at}
use Rattle.zed_export.specs.World.{exported_board}
use Rattle.zed_export.specs.Fields.{FitsBoard}
use Rattle.zed_export.proofs.exporting.boards_of.Given as goal

-- the boards of the places so far
abbrev pub invariant-loop-i : goal.invariant-loop-i
invariant-loop-i l = record {
  made : l.boards.items ≡ map (λ i. exported_board l.view (board_at l.view i)) (take l.i-index l.places);
  fits : AllByRecursion FitsBoard l.boards.items;
}
