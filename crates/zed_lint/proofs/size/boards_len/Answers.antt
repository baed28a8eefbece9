use Rattle.std.proofs.Common.{arith, add-one}
use Rattle.zed_lint.proofs.Fits.{boards_more}
use Rattle.zed_lint.proofs.size.boards_len.Goals as goal

pub loop-board-preserved : goal.loop-board-preserved
loop-board-preserved c =
    let more = boards_more c.args.boards.now c.loop-board.board-index c.board-item.result c.loop-board-test.true c.board-item.is in
    record {
      counted = rw add-one (omega (arith, more, c.loop-board.invariant.counted, c.body_len.ensures.result));
      within = omega (arith, c.loop-board.invariant.within, c.body_len.ensures.within);
    }
