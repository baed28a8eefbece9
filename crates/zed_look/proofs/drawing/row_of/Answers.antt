use Rattle.std.proofs.Common.{arith}
use Rattle.zed_look.specs.Drawing.{shown_at}
use Rattle.zed_look.proofs.Filling.{row_filled}
use Rattle.zed_look.proofs.drawing.row_of.Goals as goal

pub returns : goal.returns
returns c =
    let l = c.loop-column in
    row_filled (shown_at c.args.board.now c.args.tick) c.args.row l.column l.spots l.invariant.0 (omega (arith, c.loop-column-test.false)) l.invariant.1
