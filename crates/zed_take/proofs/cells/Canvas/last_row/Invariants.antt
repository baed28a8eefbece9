use Rattle.std.proofs.Common.{◌-◌, ◌<◌}
use Rattle.zed_take.proofs.cells.Canvas.last_row.Given as goal

abbrev pub invariant-loop-bottom : goal.invariant-loop-bottom
invariant-loop-bottom l = l.bottom < 25

abbrev pub decreases-loop-bottom : goal.decreases-loop-bottom
decreases-loop-bottom l = 25 - l.bottom
