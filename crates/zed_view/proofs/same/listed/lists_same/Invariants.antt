use Rattle.std.proofs.Common.{◌≡◌, ◌≤◌, length, take}
use Rattle.zed_view.proofs.same.listed.lists_same.Given as goal

abbrev pub invariant-loop-i : goal.invariant-loop-i
invariant-loop-i g l = (l.i ≤ length (g.L.Listed.shown l.a)) × (take l.i (g.L.Listed.shown l.a) ≡ take l.i (g.L.Listed.shown l.b))
