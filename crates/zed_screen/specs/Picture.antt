-- What is shown of a board: a character and an attribute for each of the 80 by 25 places of the screen.
use Rattle.std.specs.Prelude.{ℕ, ◌+◌, ◌-◌, ◌*◌, ◌%◌, ◌/◌, Bool, ◌&&◌, ◌||◌, ◌==◌, nat_le, if◌then◌else◌, find, Option, Some, None}
use Rattle.zed_types.specs.declared.kind.Look.{Look}
use Rattle.zed_types.specs.declared.kind.Look.TheVariants.{Character, FirstParameter, Colour}
use Rattle.zed_types.specs.declared.tile.Place.{Place}
use Rattle.zed_types.specs.declared.tile.Tile.{Tile}
use Rattle.zed_types.specs.Elements.{row_of}
use Rattle.zed_scene.specs.declared.stat.Stat.{Stat}
use Rattle.zed_scene.specs.Scene.{Scene, same_place, tile_at}
use Rattle.zed_world.specs.declared.board.BoardData.{BoardData}
use Rattle.zed_world.specs.declared.stat.StatData.{StatData}
use Rattle.zed_screen.specs.declared.frame.Cell.{Cell}

-- how an element looks
unfoldable pub look_of : ℕ → Look
look_of n = (row_of n).character

-- the first parameter of a stat as a character; `?` without a stat
abbrev pub or_mark : Option ℕ → ℕ
or_mark None = 63
or_mark (Some p1) = p1

-- the character of a tile that looks so
abbrev pub character_as : Look → ℕ → Option ℕ → ℕ
character_as (Character c) colour p1 = c
character_as FirstParameter colour p1 = or_mark p1
character_as Colour colour p1 = colour

-- empty and white text are white on black, other text white on its colour
abbrev pub attribute_of : Tile → ℕ
attribute_of t =
    if t.element == 0 || t.element == 53 then 15
    else if nat_le 47 t.element && nat_le t.element 52 then (t.element - 46) * 16 + 15
    else t.colour

-- a tile, and the first parameter of the lowest stat at its place
abbrev pub cell_of : Tile → Option ℕ → Cell
cell_of t p1 = record { character = character_as (look_of t.element) t.colour p1; attribute = attribute_of t }

-- beside the board
abbrev pub side : Cell
side = record { character = 32; attribute = 31 }

-- ---- the place k of the screen, counted row by row

-- the place of the table that is shown in a column and a row of the screen, both counted from 0
abbrev pub place_of : ℕ → ℕ → Place
place_of column row = record { x = column + 1; y = row + 1 }

-- whether a column is beside the table
abbrev pub is_beside : ℕ → Bool
is_beside column = nat_le 60 column

-- what is shown in a column, of a tile and the first parameter of the lowest stat at its place
abbrev pub shown_in : ℕ → Tile → Option ℕ → Cell
shown_in column t p1 = if is_beside column then side else cell_of t p1

-- the first parameter of a stat of a board in play, if there is a stat
abbrev pub p1_of : Option Stat → Option ℕ
p1_of None = None
p1_of (Some a) = Some a.p1

-- the first parameter of the lowest stat at a place
abbrev pub p1_at : Scene → Place → Option ℕ
p1_at s p = p1_of (find (λ a. same_place a.place p) s.stats)

-- what the screen shows at its place k of a board in play
unfoldable pub scene_cell : Scene → ℕ → Cell
scene_cell s k = let p = place_of (k % 80) (k / 80) in shown_in (k % 80) (tile_at s.tiles p) (p1_at s p)

-- whether a stat of a world's board stands at a place
abbrev pub stands_at : Place → StatData → Bool
stands_at p s = s.x == p.x && s.y == p.y

-- the first parameter of a stat of a world's board, if there is a stat
abbrev pub data_p1 : Option StatData → Option ℕ
data_p1 None = None
data_p1 (Some s) = Some s.p1

-- what the screen shows at its place k of a board of a world
unfoldable pub data_cell : BoardData → ℕ → Cell
data_cell b k = let p = place_of (k % 80) (k / 80) in shown_in (k % 80) (tile_at b.tiles p) (data_p1 (find (stands_at p) b.stats))
