-- What is found of tiles.
use Rattle.std.specs.Prelude.{ℕ, Bool, not, ◌&&◌, ◌||◌, ◌==◌, nat_le, nat_lt, if◌then◌else◌, List, ◌++◌, take, Option, Some, None}
use Rattle.std.specs.List.{list_any}
use Rattle.zed_types.specs.Table.{place_at}
use Rattle.zed_types.specs.declared.tile.Place.{Place}
use Rattle.zed_types.specs.declared.tile.Tile.{Tile}
use Rattle.zed_world.specs.declared.board.BoardData.{BoardData}
use Rattle.zed_world.specs.declared.stat.StatData.{StatData}
use Rattle.zed_lint.specs.Boards.{count_of}
use Rattle.zed_lint.specs.Found.{each_from, noted}
use Rattle.zed_lint.specs.declared.finding.Finding.{Finding}
use Rattle.zed_lint.specs.declared.finding.Spot.{Spot}
use Rattle.zed_lint.specs.declared.finding.Spot.TheVariants.{Tile as TileAt}
use Rattle.zed_lint.specs.declared.finding.What.{What}
use Rattle.zed_lint.specs.declared.finding.What.TheVariants.{UnknownElement, NoStat}

-- whether ZZT gives an element a stat: the player (4), scroll, passage, duplicator, bomb (10 to 13), star, conveyors, bullet (15 to 18),
-- blink wall (29), transporter (30), bear, ruffian, object, slime, shark, spinning gun, pusher, lion, tiger (34 to 42), head, segment (44, 45)
abbrev pub wants_stat : ℕ → Bool
wants_stat e =
    e == 4 || nat_le 10 e && nat_le e 13 || nat_le 15 e && nat_le e 18 || e == 29 || e == 30 || nat_le 34 e && nat_le e 42 || e == 44 || e == 45

-- whether one of these tiles has an element
abbrev pub has_element : List Tile → ℕ → Bool
has_element tiles element = list_any (λ t. t.element == element) tiles

-- of an element over 53, at the first tile that has it: how many have it
abbrev pub unknown : List Tile → List Tile → Tile → Option What
unknown all before t =
    if nat_lt 53 t.element && not (has_element before t.element) then Some (UnknownElement (count_of t.element all)) else None

-- whether one of these stats has a place
abbrev pub has_stat : List StatData → Place → Bool
has_stat stats p = list_any (λ s. s.x == p.x && s.y == p.y) stats

-- a tile that wants a stat, if there is none at its place
abbrev pub bare : List StatData → Place → Tile → Option What
bare stats p t = if wants_stat t.element && not (has_stat stats p) then Some NoStat else None

-- the spot of tile i of board n
abbrev pub tile_spot : ℕ → ℕ → Tile → Spot
tile_spot n i t = TileAt n (place_at i) t

-- what is found of tile i of board n
unfoldable pub tile_findings : ℕ → BoardData → ℕ → Tile → List Finding
tile_findings n b i t =
    noted (tile_spot n i t) (unknown b.tiles (take i b.tiles) t) ++ noted (tile_spot n i t) (bare b.stats (place_at i) t)

-- what is found of the tiles of board n, row after row
abbrev pub tiles_findings : ℕ → BoardData → List Finding
tiles_findings n b = each_from (tile_findings n b) 0 b.tiles
