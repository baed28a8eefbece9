use Rattle.std.proofs.Common.{◌≡◌, ◌<◌, ◌*◌, length, map, take, drop, All}
use Rattle.zed_edit.specs.Numbers.{alive_boards}
use Rattle.zed_view.specs.View.{board_at}
use Rattle.zed_document.proofs.readers.board_numbered.Given as goal

-- each walk told of 101 boards
abbrev pub invariant-loop-walk : goal.invariant-loop-walk
invariant-loop-walk l = record {
  boards : map (board_at l.view) l.first.items ≡ take 101 (drop (101 * l._walk) (alive_boards l.view));
  within : All (λ i. i < length l.view.boards) l.first.items;
}
