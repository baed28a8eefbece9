use Rattle.std.proofs.Common.{◌≡◌, ◌≤◌, length, take}
use Rattle.zed_view.proofs.same.tiles.tiles_same.Given as goal

abbrev pub invariant-loop-i : goal.invariant-loop-i
invariant-loop-i l = (l.i ≤ length l.a) × (take l.i l.a ≡ take l.i l.b)
