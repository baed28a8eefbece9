-- The table of a board: its places row after row.
use Rattle.std.specs.Prelude.{ℕ, ◌+◌, ◌*◌, ◌-◌, ◌/◌, ◌%◌, Bool, ◌&&◌, nat_le, if◌then◌else◌, List, [], ◌∷◌, slice_get, Option, None}
use Rattle.zed_types.specs.declared.tile.Place.{Place}
use Rattle.zed_types.specs.declared.tile.Rectangle.{Rectangle}
use Rattle.zed_types.specs.declared.tile.Tile.{Tile}

-- whether a place is in a rectangle
abbrev pub is_inside : Rectangle → Place → Bool
is_inside r p = (nat_le r.left p.x && nat_le p.x r.right) && (nat_le r.top p.y && nat_le p.y r.bottom)

-- a rectangle of at least one cell, inside the table
abbrev pub is_in_table : Rectangle → Bool
is_in_table r =
    (nat_le 1 r.left && nat_le r.left r.right && nat_le r.right 60) && (nat_le 1 r.top && nat_le r.top r.bottom && nat_le r.bottom 25)

-- the place of tile i of a table
abbrev pub place_at : ℕ → Place
place_at i = record { x = i % 60 + 1; y = i / 60 + 1 }

-- which tile of the table stands at a place of it
abbrev pub index_of : Place → ℕ
index_of p = (p.y - 1) * 60 + (p.x - 1)

-- whether a column and a row, both counted from 1, are in the table
abbrev pub has_tile : ℕ → ℕ → Bool
has_tile x y = nat_le 1 x && nat_le x 60 && nat_le 1 y && nat_le y 25

-- the tile of a table in a column and a row, if they are in it
abbrev pub tile_at : List Tile → ℕ → ℕ → Option Tile
tile_at tiles x y = if has_tile x y then slice_get tiles (60 * (y - 1) + (x - 1)) else None

-- f of the number and the value of each member, numbered from i
abbrev pub map_from : {X Y : Type 0} → (ℕ → X → Y) → ℕ → List X → List Y
map_from f i [] = []
map_from f i (x ∷ xs) = f i x ∷ map_from f (i + 1) xs
