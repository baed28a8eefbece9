use Rattle.std.proofs.Common.{◌≡◌, ◌++◌, take, drop}
use Rattle.zed_types.specs.Names.{same_board}
use Rattle.zed_edit.specs.Board.{set_board_cells}
use Rattle.zed_edit.specs.Document.{change_such}
use Rattle.zed_edit.proofs.board.fill_boards.Given as goal

abbrev pub invariant-loop-x : goal.invariant-loop-x
invariant-loop-x l =
    l.boards ≡ change_such (λ x. same_board x.id l.b) (set_board_cells l.r l.tile) (take l.x-index l.initial.boards) ++ drop l.x-index l.initial.boards
