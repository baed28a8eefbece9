use Rattle.std.proofs.Common.{◌≡◌}
use Rattle.zed_edit.specs.Board.{set_cells}
use Rattle.zed_edit.proofs.cells.set_cells.Given as goal

abbrev pub invariant-loop-row : goal.invariant-loop-row
invariant-loop-row l = l.tiles ≡ set_cells (record l.fn.r { bottom = l.row }) l.tile l.initial.tiles
