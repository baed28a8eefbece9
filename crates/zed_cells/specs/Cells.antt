-- The cells of a board, each a register with its stamp.
use Rattle.std.specs.Prelude.{◌≡◌, ◌<◌, ℕ, Bool, if◌then◌else◌, List, [], ◌∷◌, length, map, slice_get}
use Rattle.std.specs.List.{filter}
use Rattle.zed_types.specs.declared.stamp.Stamp.{Stamp}
use Rattle.zed_types.specs.declared.tile.Tile.{Tile}
use Rattle.zed_types.specs.declared.tile.Rectangle.{Rectangle}
use Rattle.zed_types.specs.declared.written.Written.{Written}
use Rattle.zed_types.specs.Register.{latest_of, written_at}
use Rattle.zed_types.specs.Table.{is_inside, place_at, map_from}
use Rattle.zed_cells.specs.Writes.{later}

-- tiles, each with the stamp beside it
abbrev pub with_stamps : List Tile → List Stamp → List (Written Tile)
with_stamps [] ss = []
with_stamps (t ∷ ts) [] = []
with_stamps (t ∷ ts) (s ∷ ss) = written_at s t ∷ with_stamps ts ss

-- the tiles that cells show
abbrev pub tiles_of : List (Written Tile) → List Tile
tiles_of cells = map (λ w. w.value) cells

-- each cell whose number passes the test keeps the later of what it has and a new write
abbrev pub keep_where : (ℕ → Bool) → Written Tile → List (Written Tile) → List (Written Tile)
keep_where test w cells = map_from (λ i kept. if test i then later kept w else kept) 0 cells

-- each cell of a rectangle keeps the later of what it has and a new write
abbrev pub set_cells : Rectangle → Written Tile → List (Written Tile) → List (Written Tile)
set_cells r w cells = keep_where (λ i. is_inside r (place_at i)) w cells

-- rectangles, each with its write, in the order in which they come
abbrev pub draw : List (Rectangle × Written Tile) → List (Written Tile) → List (Written Tile)
draw [] cells = cells
draw (d ∷ ds) cells = draw ds (set_cells d.0 d.1 cells)

-- the writes that reach cell i
abbrev pub writes_into : ℕ → List (Rectangle × Written Tile) → List (Written Tile)
writes_into i ds = map (λ d. d.1) (filter (λ d. is_inside d.0 (place_at i)) ds)

-- each cell holds the latest of what it had and the writes that reach it, however the rectangles come
abbrev pub CellsHoldTheLatest : Type 0
CellsHoldTheLatest =
    (i : ℕ) (ds : List (Rectangle × Written Tile)) (cells : List (Written Tile))
    → i < length cells
    → slice_get (draw ds cells) i ≡ latest_of (slice_get cells i) (writes_into i ds)
