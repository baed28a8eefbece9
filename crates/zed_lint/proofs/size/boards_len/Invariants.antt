use Rattle.std.proofs.Common.{◌≡◌, ◌≤◌, ◌*◌, length, take}
use Rattle.std.specs.List.{flat_map}
use Rattle.zed_world.specs.Writing.{board_text}
use Rattle.zed_lint.proofs.size.boards_len.Given as goal

abbrev pub invariant-loop-board : goal.invariant-loop-board
invariant-loop-board l = record {
  counted : l.bytes ≡ length (flat_map board_text (take l.board-index l.boards));
  within : l.bytes ≤ 4957441 * l.board-index;
}
