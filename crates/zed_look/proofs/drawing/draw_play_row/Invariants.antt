use Rattle.std.proofs.Common.{◌≡◌, ◌<◌, ℕ, Some, slice_get, length}
use Rattle.zed_look.specs.Drawing.{played_at}
use Rattle.zed_look.proofs.drawing.draw_play_row.Given as goal

abbrev pub invariant-loop-column : goal.invariant-loop-column
invariant-loop-column l = (length l.spots ≡ 60) × ((j : ℕ) → j < l.column → slice_get l.spots j ≡ Some (played_at l.play l.row j))
