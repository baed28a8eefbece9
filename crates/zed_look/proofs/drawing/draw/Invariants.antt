use Rattle.std.proofs.Common.{◌≡◌, ◌<◌, ℕ, Some, slice_get, length}
use Rattle.zed_look.specs.Drawing.{row_of, shown_at}
use Rattle.zed_look.proofs.drawing.draw.Given as goal

abbrev pub invariant-loop-row : goal.invariant-loop-row
invariant-loop-row l = (length l.rows ≡ 25) × ((j : ℕ) → j < l.row → slice_get l.rows j ≡ Some (row_of (shown_at l.board l.tick) j))
