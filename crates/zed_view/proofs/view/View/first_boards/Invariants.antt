use Rattle.std.proofs.Common.{◌≡◌, ◌<◌, ◌≤◌, not, length, map, drop, filter, All}
use Rattle.zed_view.specs.First.{first_of, is_behind}
use Rattle.zed_view.specs.View.{board_at}
use Rattle.zed_view.proofs.view.View.first_boards.Given as goal

-- those so far are the first of the boards behind
abbrev pub invariant-loop-i : goal.invariant-loop-i
invariant-loop-i l = record {
  boards : map (board_at l.self) l.first.items ≡ first_of 101 (is_behind l.after) (filter (λ b. not b.removed) (drop l.i l.self.boards));
  within : All (λ j. j < length l.self.boards) l.first.items;
  few : length l.first.items ≤ 101;
  inline : l.first.capacity ≡ 102;
}
