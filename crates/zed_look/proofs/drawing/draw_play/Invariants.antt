use Rattle.std.proofs.Common.{◌≡◌, ◌<◌, ℕ, Some, slice_get, length}
use Rattle.zed_look.specs.Drawing.{played_at, row_of}
use Rattle.zed_look.proofs.drawing.draw_play.Given as goal

abbrev pub invariant-loop-row : goal.invariant-loop-row
invariant-loop-row l = (length l.rows ≡ 25) × ((j : ℕ) → j < l.row → slice_get l.rows j ≡ Some (row_of (played_at l.play) j))
