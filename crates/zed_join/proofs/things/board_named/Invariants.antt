use Rattle.std.proofs.Common.{◌≡◌, drop}
use Rattle.zed_laws.specs.Winners.{find_board}
use Rattle.zed_join.proofs.things.board_named.Given as goal

-- the board is sought among the rest
abbrev pub invariant-loop-i : goal.invariant-loop-i
invariant-loop-i l = find_board l.id (drop l.i l.view.boards) ≡ find_board l.id l.view.boards
