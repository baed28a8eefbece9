use Rattle.std.proofs.Common.{◌≡◌, replicate}
use Rattle.zed_cells.proofs.cells.stamp_each.Given as goal

abbrev pub invariant-loop : goal.invariant-loop
invariant-loop l = l.stamps.items ≡ replicate l.counter l.stamp
