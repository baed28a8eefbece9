use Rattle.std.proofs.Common.{arith}
use Rattle.zed_look.specs.Drawing.{shown_at}
use Rattle.zed_look.proofs.Filling.{picture_filled}
use Rattle.zed_look.proofs.drawing.draw.Goals as goal

pub returns : goal.returns
returns c =
    let l = c.loop-row in
    picture_filled (shown_at c.args.board.now c.args.tick) l.row l.rows l.invariant.0 (omega (arith, c.loop-row-test.false)) l.invariant.1
