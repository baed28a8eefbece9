use Rattle.std.proofs.Common.{◌-◌, ◌<◌}
use Rattle.zed_take.proofs.cells.Canvas.last_column.Given as goal

abbrev pub invariant-loop-last : goal.invariant-loop-last
invariant-loop-last l = l.last < 60

abbrev pub decreases-loop-last : goal.decreases-loop-last
decreases-loop-last l = 60 - l.last
