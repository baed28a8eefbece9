use Rattle.std.proofs.Common.{arith, cond}
use Rattle.zed_types.specs.Names.{same_board}
use Rattle.zed_types.proofs.Facts.{map_over_at}
use Rattle.zed_edit.specs.declared.plain.Board.{Board}
use Rattle.zed_edit.specs.Board.{add_stat}
use Rattle.zed_edit.proofs.board.add_to_boards.Goals as goal

pub loop-x-preserved : goal.loop-x-preserved
loop-x-preserved c =
    map_over_at (λ (y : Board). cond (same_board y.id c.args.b) (add_stat c.args.stat y) y) c.args.boards.now c.loop-x.boards c.loop-x.x-index c.x-item.result c.add_if.new.board (omega arith) c.loop-x.auto.boards c.loop-x.invariant c.in_ok-add_if.ensures.added
