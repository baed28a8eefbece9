-- A board in play: what stands where.
use Rattle.std.specs.Prelude.{ℕ, Bool, ◌&&◌, nat_lt, ◌==◌, if◌then◌else◌, List, [], ◌∷◌, ◌++◌, length, position, slice_index_or, slice_set, slice_get, Option, Some, None}
use Rattle.zed_types.specs.declared.tile.Place.{Place}
use Rattle.zed_types.specs.declared.tile.Tile.{Tile}
use Rattle.zed_types.specs.Table.{index_of}
use Rattle.zed_scene.specs.declared.counters.Counters.{Counters}
use Rattle.zed_scene.specs.declared.scroll.Scroll.{Scroll}
use Rattle.zed_scene.specs.declared.stat.Stat.{Stat}
use Rattle.zed_scene.specs.Places.{is_on_board}

-- a board in play, its tiles row after row, and the player first among its stats
pub record Scene : Type 0 where
  pub tiles : List Tile
  pub stats : List Stat
  -- stats know theirs by its number, and those that share one have the same
  pub programs : List (List ℕ)
  pub counters : Counters
  pub flags : List (List ℕ)
  -- the number of the stat that is looked at in a step
  pub ticking : ℕ
  -- the stat that acts, none once it is gone
  pub acting : Option ℕ
  -- the stat whose program has its turn, none once it is gone
  pub running : Option ℕ
  -- what was said in the turns of a step, in order
  pub scrolls : List Scroll

-- what stands outside of the table
abbrev pub edge : Tile
edge = record { element = 1; colour = 0 }

-- the tile where nothing is: element 0, colour 0
abbrev pub empty_tile : Tile
empty_tile = record { element = 0; colour = 0 }

-- the tile at a place
abbrev pub tile_at : List Tile → Place → Tile
tile_at tiles p = if is_on_board p then slice_index_or tiles (index_of p) edge else edge

-- a tile is put at a place; outside of the table nothing is written
abbrev pub with_tile : List Tile → Place → Tile → List Tile
with_tile tiles p t = if is_on_board p then slice_set tiles (index_of p) t else tiles

-- whether two places are of one column and one row
abbrev pub same_place : Place → Place → Bool
same_place p q = p.x == q.x && p.y == q.y

-- the lowest stat with this column and row
abbrev pub stat_at : List Stat → Place → Option ℕ
stat_at stats p = position (λ a. same_place a.place p) stats

-- the element of the tile at a place, 1 outside of the table
abbrev pub element_at : Scene → Place → ℕ
element_at s p = (tile_at s.tiles p).element

-- outside of the table there is element 1
abbrev pub element_ahead : Scene → Option Place → ℕ
element_ahead s None = 1
element_ahead s (Some p) = element_at s p

-- a board in play with a tile put at a place; outside of the table nothing is written
abbrev pub put : Place → Tile → Scene → Scene
put p t s = record s { tiles = with_tile s.tiles p t }

-- stat i becomes this one
abbrev pub put_stat : ℕ → Stat → Scene → Scene
put_stat i a s = record s { stats = slice_set s.stats i a }

-- the stat of a number, where there is one
abbrev pub stat_of : Scene → Option ℕ → Option Stat
stat_of s None = None
stat_of s (Some i) = slice_get s.stats i

-- the stat of a number becomes this one; without a number nothing changes
abbrev pub put_at : Option ℕ → Stat → Scene → Scene
put_at None a s = s
put_at (Some i) a s = put_stat i a s

-- the stat that acts
abbrev pub acting_stat : Scene → Option Stat
acting_stat s = stat_of s s.acting

-- the stat that acts becomes this one, unless it is gone
abbrev pub put_acting_stat : Stat → Scene → Scene
put_acting_stat a s = put_at s.acting a s

-- the stat whose program has its turn
abbrev pub running_stat : Scene → Option Stat
running_stat s = stat_of s s.running

-- the stat whose program has its turn becomes this one, unless it is gone
abbrev pub put_running_stat : Stat → Scene → Scene
put_running_stat a s = put_at s.running a s

-- stat i, if it is there, is at this place of its program, or at none: its program has ended
abbrev pub at_position : ℕ → Option ℕ → Option Stat → Scene → Scene
at_position i o None s = s
at_position i o (Some a) s = put_stat i (record a { position = o }) s

-- the running stat, if it is there, is at this place of its program, or at none: its program has ended
abbrev pub running_at : Option ℕ → Option Stat → Scene → Scene
running_at o None s = s
running_at o (Some a) s = put_running_stat (record a { position = o }) s

-- the bytes of a program, no bytes where there is none
abbrev pub or_empty : Option (List ℕ) → List ℕ
or_empty None = []
or_empty (Some p) = p

-- the bytes of a program; none without one
abbrev pub program_of : Scene → Option ℕ → List ℕ
program_of s None = []
program_of s (Some k) = or_empty (slice_get s.programs k)

-- program k gets these bytes, for all the stats that share it
abbrev pub put_program : ℕ → List ℕ → Scene → Scene
put_program k p s = record s { programs = slice_set s.programs k p }

-- one scroll more, of the stat whose program has its turn
abbrev pub with_scroll : List ℕ → List (List ℕ) → Scene → Scene
with_scroll title lines s =
    record s { scrolls = s.scrolls ++ record { speaker = s.running; title = title; lines = lines } ∷ [] }

-- the number of a stat, if it is there
abbrev pub there : Scene → ℕ → Option ℕ
there s i = if nat_lt i (length s.stats) then Some i else None
