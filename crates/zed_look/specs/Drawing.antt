-- What is shown of a board, place by place.
use Rattle.std.specs.Prelude.{ℕ, pos, ◌+◌, ◌-◌, Bool, ◌&&◌, ◌||◌, ◌==◌, if◌then◌else◌, find, List, map, Option, Some, None}
use Rattle.std.specs.List.{range_with_len}
use Rattle.zed_types.specs.declared.tile.Place.{Place}
use Rattle.zed_types.specs.declared.tile.Tile.{Tile}
use Rattle.zed_scene.specs.declared.stat.Stat.{Stat}
use Rattle.zed_scene.specs.Scene.{Scene, same_place, tile_at}
use Rattle.zed_play.specs.Opening.{cycle_in}
use Rattle.zed_play.specs.Playtest.{Playtest}
use Rattle.zed_world.specs.declared.board.BoardData.{BoardData}
use Rattle.zed_world.specs.declared.stat.StatData.{StatData}
use Rattle.zed_look.specs.declared.look.Picture.{Picture}
use Rattle.zed_look.specs.declared.look.Pose.{Pose}
use Rattle.zed_look.specs.declared.look.Spot.{Spot}
use Rattle.zed_look.specs.Tiles.{spot_of}

-- what is to be seen of a stat
abbrev pub pose_of : StatData → Pose
pose_of s = record { p1 = s.p1; step_x = s.step_x; step_y = s.step_y; cycle = cycle_in s.cycle }

-- what is to be seen of a stat in play
abbrev pub played_pose : Stat → Pose
played_pose s = record { p1 = s.p1; step_x = s.step.x; step_y = s.step.y; cycle = s.cycle }

-- where no stat stands ZZT reads what lies in front of its stats: tiles of the edge, whose bytes are 1 and 0 by turns
abbrev pub no_pose : Pose
no_pose = record { p1 = 0; step_x = pos 256; step_y = pos 256; cycle = 256 }

-- the same of a stat, if there is one
abbrev pub pose_in : Option StatData → Pose
pose_in (Some s) = pose_of s
pose_in None = no_pose

-- the same of a stat in play, if there is one
abbrev pub scene_pose : Option Stat → Pose
scene_pose (Some s) = played_pose s
scene_pose None = no_pose

-- whether a stat stands at a place
abbrev pub stands_at : Place → StatData → Bool
stands_at p s = s.x == p.x && s.y == p.y

-- whether a line wall joins what stands in a column and a row: another one, or the edge, which is all round the table
abbrev pub joins : List Tile → ℕ → ℕ → Bool
joins tiles x y = let t = tile_at tiles (record { x = x; y = y }) in t.element == 1 || t.element == 31

-- a number, or 0
abbrev pub weight : Bool → ℕ → ℕ
weight b n = if b then n else 0

-- which neighbours of a place are joined: 1 for north, 2 for south, 4 for west and 8 for east
unfoldable pub joined_at : List Tile → Place → ℕ
joined_at tiles p =
    weight (joins tiles p.x (p.y - 1)) 1 + weight (joins tiles p.x (p.y + 1)) 2 + weight (joins tiles (p.x - 1) p.y) 4 + weight (joins tiles (p.x + 1) p.y) 8

-- the place of the table that is shown in a column and a row, both counted from 0
abbrev pub place_of : ℕ → ℕ → Place
place_of column row = record { x = column + 1; y = row + 1 }

-- what is shown in a tick of a tile at a place of the table
abbrev pub shown_of : List Tile → Pose → ℕ → Place → Spot
shown_of tiles pose tick p = spot_of (tile_at tiles p) pose (joined_at tiles p) tick

-- what is shown of a board in a tick, in a row and a column
unfoldable pub shown_at : BoardData → ℕ → ℕ → ℕ → Spot
shown_at b tick row column = let p = place_of column row in shown_of b.tiles (pose_in (find (stands_at p) b.stats)) tick p

-- in play an invisible wall (28) is blank (32)
abbrev pub in_play : Tile → Spot → Spot
in_play t s = if t.element == 28 then record { character = 32; attribute = s.attribute } else s

-- what is shown of a board in play in a tick, in a row and a column
unfoldable pub scene_at : Scene → ℕ → ℕ → ℕ → Spot
scene_at scene tick row column =
    let p = place_of column row in
    in_play (tile_at scene.tiles p) (shown_of scene.tiles (scene_pose (find (λ s. same_place s.place p) scene.stats)) tick p)

-- what is shown of a playtest, in a row and a column
abbrev pub played_at : Playtest → ℕ → ℕ → Spot
played_at p row column = scene_at p.game.scene p.tick row column

-- ---- pictures by what is shown in a row and a column

-- the 60 places of a row
unfoldable pub row_of : (ℕ → ℕ → Spot) → ℕ → List Spot
row_of f row = map (f row) (range_with_len 0 60)

-- the picture of 25 rows
unfoldable pub picture_of : (ℕ → ℕ → Spot) → Picture
picture_of f = record { rows = map (row_of f) (range_with_len 0 25) }

-- the picture of a board in a tick
abbrev pub board_picture : ℕ → BoardData → Picture
board_picture tick b = picture_of (shown_at b tick)
