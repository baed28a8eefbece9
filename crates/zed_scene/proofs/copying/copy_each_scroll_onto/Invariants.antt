use Rattle.std.proofs.Common.{length, ◌-◌, ◌≡◌, take, drop}
use Rattle.zed_scene.proofs.copying.copy_each_scroll_onto.Given as goal

abbrev pub invariant-loop-i : goal.invariant-loop-i
invariant-loop-i l = (take l.i l.into ≡ take l.i l.scrolls) × (drop l.i l.into ≡ drop l.i l.fn.into)

-- proposed from the loop's first test
abbrev pub decreases-loop-i : goal.decreases-loop-i
decreases-loop-i l = length l.scrolls - l.i
