-- What a terminal is told of a scroll.
use Rattle.std.specs.Prelude.{ℕ, ◌+◌, ◌-◌, List, length, ◌∷◌, ◌++◌, [], map, None}
use Rattle.std.specs.Fmt.{decimal}
use Rattle.std.specs.List.{flat_map, range_with_len}
use Rattle.zed_scene.specs.declared.scroll.Scroll.{Scroll}
use Rattle.zed_look.specs.declared.look.Spot.{Spot}
use Rattle.zed_look.specs.Coloured.{coloured_row}
use Rattle.zed_scroll.specs.declared.frame.Window.{Window}
use Rattle.zed_scroll.specs.Window.{at_most, window_on, window_spot}

-- to a row and a column, both counted from 1: escape (27), `[` (91), the one, `;` (59), the other, and `H` (72)
unfoldable pub place : ℕ → ℕ → List ℕ
place row column = 27 ∷ 91 ∷ decimal row ++ 59 ∷ decimal column ++ 72 ∷ []

-- a row of a window, as far as it is shown
unfoldable pub window_row : Scroll → ℕ → Window → ℕ → List Spot
window_row scroll line w row = map (window_spot scroll line w.lines row) (range_with_len 0 w.columns)

-- the same at its place
abbrev pub placed_row : Scroll → ℕ → Window → ℕ → List ℕ
placed_row scroll line w row = place (w.top + row + 1) (w.left + 1) ++ coloured_row None (window_row scroll line w row)

-- the rows of a window, each at its place
unfoldable pub window_text : Scroll → ℕ → Window → List ℕ
window_text scroll line w = flat_map (placed_row scroll line w) (range_with_len 0 w.rows)

-- a scroll with this of its lines in the middle, or the last one, on a terminal of so many rows and columns, over what it shows
abbrev pub scroll_text : ℕ → ℕ → Scroll → ℕ → List ℕ
scroll_text rows columns scroll line = window_text scroll (at_most (length scroll.lines - 1) line) (window_on rows columns)
