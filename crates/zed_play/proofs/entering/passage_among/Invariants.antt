use Rattle.std.proofs.Common.{◌≡◌, ◌≤◌}
use Rattle.zed_play.specs.Entering.{passage_among}
use Rattle.zed_play.proofs.entering.passage_among.Given as goal

abbrev pub invariant-loop-left : goal.invariant-loop-left
invariant-loop-left l = (l.left ≤ 1500) × (passage_among l.left l.fn.colour l.fn.tiles ≡ passage_among l.fn.count l.fn.colour l.fn.tiles)

abbrev pub decreases-loop-left : goal.decreases-loop-left
decreases-loop-left l = l.left
