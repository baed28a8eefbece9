use Rattle.std.proofs.Common.{arith}
use Rattle.zed_look.specs.Drawing.{played_at}
use Rattle.zed_look.proofs.Filling.{picture_filled}
use Rattle.zed_look.proofs.drawing.draw_play.Goals as goal

pub returns : goal.returns
returns c =
    let l = c.loop-row in
    picture_filled (played_at c.args.play.now) l.row l.rows l.invariant.0 (omega (arith, c.loop-row-test.false)) l.invariant.1
