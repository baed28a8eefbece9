use Rattle.std.proofs.Common.{◌≡◌, ◌≤◌, length}
use Rattle.zed_types.specs.Register.{written_at}
use Rattle.zed_cells.specs.Cells.{with_stamps, keep_where}
use Rattle.zed_cells.proofs.Rows.{between}
use Rattle.zed_cells.proofs.cells.set_row.Given as goal

abbrev pub invariant-loop-i : goal.invariant-loop-i
invariant-loop-i l = record {
  order : l.from ≤ l.i;
  whole : length l.stamps.items ≡ 1500;
  cells : with_stamps l.tiles l.stamps.items ≡ keep_where (between l.from l.i) (written_at l.stamp l.tile) (with_stamps l.initial.tiles l.initial.stamps.items);
}
