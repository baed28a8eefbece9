-- Another board, where the player of a playtest comes to it.
use Rattle.std.specs.Prelude.{ℕ, pos, zero, suc, ◌+◌, ◌/◌, ◌%◌, Bool, ◌&&◌, ◌==◌, if◌then◌else◌, List, [], map, slice_get, Option, Some, None}
use Rattle.zed_types.specs.declared.property.Side.{Side}
use Rattle.zed_types.specs.declared.property.Side.TheVariants.{North, South, West, East}
use Rattle.zed_types.specs.declared.tile.Place.{Place}
use Rattle.zed_types.specs.declared.tile.Tile.{Tile}
use Rattle.zed_world.specs.declared.board.BoardData.{BoardData}
use Rattle.zed_world.specs.Contents.{Contents}
use Rattle.zed_scene.specs.declared.counters.Counters.{Counters}
use Rattle.zed_scene.specs.declared.stat.Stat.{Stat}
use Rattle.zed_scene.specs.declared.step.Step.{Step}
use Rattle.zed_scene.specs.Moving.{is_walkable, shift}
use Rattle.zed_scene.specs.Places.{ahead}
use Rattle.zed_scene.specs.Scene.{Scene, element_at, empty_tile, put_stat, tile_at}
use Rattle.zed_play.specs.declared.entering.Way.{Way}
use Rattle.zed_play.specs.declared.entering.Way.TheVariants.{Edge, Passage, Other}
use Rattle.zed_play.specs.declared.game.Game.{Game}
use Rattle.zed_play.specs.declared.key.Bounds.{Bounds}
use Rattle.zed_play.specs.declared.key.Intent.{Intent}
use Rattle.zed_play.specs.declared.key.Intent.TheVariants.{Goes, Nothing, Shoots}
use Rattle.zed_play.specs.declared.key.Key.{Key}
use Rattle.zed_play.specs.Game.{with_scene}
use Rattle.zed_play.specs.Opening.{bounds_of, bytes_of, stats_from}
use Rattle.zed_play.specs.Pieces.{piece_of}
use Rattle.zed_play.specs.Player.{step_of}
use Rattle.zed_play.specs.Playtest.{Playtest}
use Rattle.zed_play.specs.Step.{died, intent_of}
use Rattle.zed_play.specs.Touch.{touched}

-- ---- the way off a board

-- over the edge where no place of the table is ahead, or through the passage (11) that is there
abbrev pub way_to : Side → Place → Option Place → Scene → Way
way_to side from None s = Edge side from
way_to side from (Some n) s = if element_at s n == 11 then Passage (tile_at s.tiles n).colour else Other

-- the first stat's way to a side
abbrev pub way_from : Side → Option Stat → Scene → Way
way_from side None s = Other
way_from side (Some a) s = way_to side a.place (ahead a.place (step_of side)) s

-- the way of a player who does this
abbrev pub way_by : Intent → Scene → Way
way_by Nothing s = Other
way_by (Shoots side) s = Other
way_by (Goes side) s = way_from side (slice_get s.stats 0) s

-- the way on which a step by this key would lead the player off its board
abbrev pub way_of : Key → Playtest → Way
way_of key p = way_by (intent_of key) p.game.scene

-- ---- over an edge

-- the place behind the edge: on the opposite side of the next board
abbrev pub beyond : Side → Place → Place
beyond North from = record { x = from.x; y = 25 }
beyond South from = record { x = from.x; y = 1 }
beyond West from = record { x = 60; y = from.y }
beyond East from = record { x = 1; y = from.y }

-- the player touches what is at a place, coming along a step; a scroll isn't read
abbrev pub met : Place → Step → Game → Game
met n d g = touched (piece_of (element_at g.scene n)) (tile_at g.scene.tiles n) n d g

-- onto a place that can be walked on; no further than where the board has its player if one (4) stands there; else not at all
abbrev pub comes_onto : Place → Game → Option Game
comes_onto n g =
    if element_at g.scene n == 4 then Some g else
    if is_walkable (element_at g.scene n) then Some (with_scene (shift 0 n g.scene) g) else None

-- ---- through a passage

-- place number n, below 1,500, column after column
abbrev pub place_of : ℕ → Place
place_of n = record { x = n / 25 + 1; y = n % 25 + 1 }

-- a passage of this colour
abbrev pub is_passage : ℕ → Tile → Bool
is_passage colour t = t.element == 11 && t.colour == colour

-- the last passage of a colour among the first n places, if there is one
abbrev pub passage_among : ℕ → ℕ → List Tile → Option Place
passage_among zero colour tiles = None
passage_among (suc n) colour tiles =
    if is_passage colour (tile_at tiles (place_of n)) then Some (place_of n) else passage_among n colour tiles

-- the last passage of a colour on a board: the furthest to the right, and the lowest there
unfoldable pub last_passage : ℕ → List Tile → Option Place
last_passage colour tiles = passage_among 1500 colour tiles

-- nothing is under the player any more
abbrev pub bared : Option Stat → Scene → Scene
bared None s = s
bared (Some a) s = put_stat 0 (record a { under = empty_tile }) s

-- the player goes to a place, if there is one
abbrev pub brought : Option Place → Scene → Scene
brought None s = s
brought (Some n) s = shift 0 n s

-- onto the last passage of this colour, or else where the board has its player; what was under the player is gone
abbrev pub comes_through : ℕ → Scene → Scene
comes_through colour s = brought (last_passage colour s.tiles) (bared (slice_get s.stats 0) s)

-- ---- the playtest there

-- the player comes in by a way; none if it can't
abbrev pub comes_by : Way → Game → Option Game
comes_by (Edge side from) g = comes_onto (beyond side from) (met (beyond side from) (step_of side) g)
comes_by (Passage colour) g = Some (with_scene (comes_through colour g.scene) g)
comes_by Other g = Some g

-- the counters that a player has on the next board: the time there begins anew
abbrev pub carried : Counters → Counters
carried c = record c { time = pos 0 }

-- a board in play with the counters and flags of another one
abbrev pub scene_on : BoardData → Scene → Scene
scene_on b from =
    record {
      tiles = b.tiles;
      stats = stats_from 0 b.stats;
      programs = map bytes_of b.stats;
      counters = carried from.counters;
      flags = from.flags;
      ticking = 0;
      acting = None;
      running = None;
      scrolls = [];
    }

-- the same with the keys and message lines of the player there
abbrev pub game_on : BoardData → Game → Game
game_on b from = record { scene = scene_on b from.scene; keys = from.keys; left = None; messages = from.messages }

-- a playtest goes on with this game in these bounds, unless health is 0 or below
abbrev pub goes_on : Bounds → Game → Playtest → Playtest
goes_on b g p = record { game = g; bounds = b; tick = p.tick; ending = died g.scene.counters.health }

-- on the board that the player left
abbrev pub stays : Playtest → Playtest
stays p = goes_on p.bounds (record p.game { left = None }) p

-- on the board that the player came to; if it didn't, on the one that it left
abbrev pub arrives : Bounds → Option Game → Playtest → Playtest
arrives b None p = stays p
arrives b (Some g) p = goes_on b g p

-- the playtest of a board, if it is there, to which the player comes from another one
abbrev pub entered_on : Way → Option BoardData → Playtest → Option Playtest
entered_on way None from = None
entered_on way (Some b) from = Some (arrives (bounds_of b.properties) (comes_by way (game_on b from.game)) from)

-- the same of the board of this number
abbrev pub entered : Contents → ℕ → Way → Playtest → Option Playtest
entered w n way from = entered_on way (slice_get w.boards n) from
