use Rattle.std.proofs.Common.{◌≡◌, ◌≤◌, length, map, take}
use Rattle.zed_view.proofs.same.slots.tables_same.Given as goal

abbrev pub invariant-loop-i : goal.invariant-loop-i
invariant-loop-i g l = (l.i ≤ length l.a) × (take l.i (map g.R.Slot.shown l.a) ≡ take l.i (map g.R.Slot.shown l.b))
