use Rattle.std.proofs.Common.{◌≡◌, length}
use Rattle.zed_types.specs.Register.{written_at}
use Rattle.zed_cells.specs.Cells.{with_stamps, set_cells}
use Rattle.zed_cells.proofs.cells.set_rows.Given as goal

abbrev pub invariant-loop-row : goal.invariant-loop-row
invariant-loop-row l = record {
  whole : length l.stamps.items ≡ 1500;
  cells : with_stamps l.tiles l.stamps.items ≡ set_cells (record l.fn.cells { bottom = l.row }) (written_at l.stamp l.tile) (with_stamps l.initial.tiles l.initial.stamps.items);
}
