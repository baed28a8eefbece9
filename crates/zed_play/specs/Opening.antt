-- The playtest of a board of a world, before its first step.
use Rattle.std.specs.Prelude.{◌≡◌, ℕ, ℤ, pos, negsuc, true, false, List, [], ◌∷◌, ◌+◌, map, slice_get, Option, Some, None, is_some, Result, Ok, Err}
use Rattle.zed_scene.specs.declared.counters.Counters.{Counters}
use Rattle.zed_scene.specs.declared.stat.Stat.{Stat}
use Rattle.zed_scene.specs.Scene.{Scene}
use Rattle.zed_world.specs.declared.board.BoardData.{BoardData}
use Rattle.zed_world.specs.declared.board.Properties.{Properties}
use Rattle.zed_world.specs.declared.header.Header.{Header}
use Rattle.zed_world.specs.declared.stat.Code.{Code}
use Rattle.zed_world.specs.declared.stat.Code.TheVariants as code
use Rattle.zed_world.specs.declared.stat.StatData.{StatData}
use Rattle.zed_world.specs.Contents.{Contents}
use Rattle.zed_play.specs.declared.error.PlayError.{PlayError}
use Rattle.zed_play.specs.declared.error.PlayError.TheVariants.{Memory, NoWords, NoBoard, Over}
use Rattle.zed_play.specs.declared.game.Game.{Game}
use Rattle.zed_play.specs.declared.key.Bounds.{Bounds}
use Rattle.zed_play.specs.Playtest.{Playtest}

-- a position below 0 is none
abbrev pub position_in : ℤ → Option ℕ
position_in (pos n) = Some n
position_in (negsuc n) = None

-- a cycle below 0 is never
abbrev pub cycle_in : ℤ → ℕ
cycle_in (pos n) = n
cycle_in (negsuc n) = 0

-- stat i's program is numbered by i, or by the stat that it shares with
abbrev pub program_at : ℕ → Code → Option ℕ
program_at i code.None = None
program_at i (code.Own bytes) = Some i
program_at i (code.Same n) = Some n

-- the bytes of a program that a stat owns; none where it is another's, or there is none
abbrev pub own_bytes : Code → List ℕ
own_bytes code.None = []
own_bytes (code.Own bytes) = bytes
own_bytes (code.Same n) = []

-- the bytes of the program that a stat owns, none where it shares another's or has none
abbrev pub bytes_of : StatData → List ℕ
bytes_of s = own_bytes s.code

-- a stat of a world as it stands in play, under the number i
abbrev pub stat_from : ℕ → StatData → Stat
stat_from i s =
    record {
      place = record { x = s.x; y = s.y };
      step = record { x = s.step_x; y = s.step_y };
      cycle = cycle_in s.cycle;
      p1 = s.p1;
      p2 = s.p2;
      p3 = s.p3;
      follower = s.follower;
      leader = s.leader;
      under = s.under;
      position = position_in s.position;
      program = program_at i s.code;
    }

-- stats from number i on
abbrev pub stats_from : ℕ → List StatData → List Stat
stats_from i [] = []
stats_from i (s ∷ ss) = stat_from i s ∷ stats_from (i + 1) ss

-- the counters that a world begins with
abbrev pub counters_in : Header → Counters
counters_in h = record { health = h.health; ammo = h.ammo; gems = h.gems; torches = h.torches; score = h.score; time = h.time_passed }

-- a board of a world in play, with the counters and flags that the world has
abbrev pub scene_of : Header → BoardData → Scene
scene_of h b =
    record {
      tiles = b.tiles;
      stats = stats_from 0 b.stats;
      programs = map bytes_of b.stats;
      counters = counters_in h;
      flags = h.flags;
      ticking = 0;
      acting = None;
      running = None;
      scrolls = [];
    }

-- what bounds the player on a board: its shots at a time, and the boards to its sides
abbrev pub bounds_of : Properties → Bounds
bounds_of b =
    record { max_shots = b.max_shots; north = b.north; south = b.south; west = b.west; east = b.east }

-- a board in play with the keys that the world has, before anything was told
abbrev pub game_of : Header → BoardData → Game
game_of h b = record { scene = scene_of h b; keys = h.keys; left = None; messages = [] }

-- a playtest of a board of a world at a tick, before its first step
abbrev pub play_of : Header → BoardData → ℕ → Playtest
play_of h b tick = record { game = game_of h b; bounds = bounds_of b.properties; tick = tick; ending = None }

-- the playtest of the board of this number; or the world has none, or memory was refused
abbrev pub Opens : Result Playtest PlayError → Contents → ℕ → ℕ → Type 0
Opens (Ok p) w n tick = (b : BoardData) × ((slice_get w.boards n ≡ Some b) × (p ≡ play_of w.header b tick))
Opens (Err NoBoard) w n tick = slice_get w.boards n ≡ None
Opens (Err Memory) w n tick = is_some (slice_get w.boards n) ≡ true
Opens (Err NoWords) w n tick = true ≡ false
Opens (Err Over) w n tick = true ≡ false
