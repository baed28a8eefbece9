use Rattle.std.proofs.Common.{◌≡◌, ◌++◌, drop, map}
use Rattle.zed_delivery.specs.Made.{board_thing}
use Rattle.zed_delivery.proofs.made.add_boards.Given as goal

-- what was added so far, with what is left, is the whole
abbrev pub invariant-loop-board : goal.invariant-loop-board
invariant-loop-board l = l.things.items ++ map board_thing (drop l.board-index l.boards) ≡ l.fn.things.items ++ map board_thing l.boards
