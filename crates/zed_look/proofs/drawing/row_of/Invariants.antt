use Rattle.std.proofs.Common.{◌≡◌, ◌<◌, ℕ, Some, slice_get, length}
use Rattle.zed_look.specs.Drawing.{shown_at}
use Rattle.zed_look.proofs.drawing.row_of.Given as goal

abbrev pub invariant-loop-column : goal.invariant-loop-column
invariant-loop-column l = (length l.spots ≡ 60) × ((j : ℕ) → j < l.column → slice_get l.spots j ≡ Some (shown_at l.board l.tick l.row j))
