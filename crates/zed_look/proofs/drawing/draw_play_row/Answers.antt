use Rattle.std.proofs.Common.{arith}
use Rattle.zed_look.specs.Drawing.{played_at}
use Rattle.zed_look.proofs.Filling.{row_filled}
use Rattle.zed_look.proofs.drawing.draw_play_row.Goals as goal

pub returns : goal.returns
returns c =
    let l = c.loop-column in
    row_filled (played_at c.args.play.now) c.args.row l.column l.spots l.invariant.0 (omega (arith, c.loop-column-test.false)) l.invariant.1
