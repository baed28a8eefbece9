-- Tiles that programs make.
use Rattle.std.specs.Prelude.{ℕ, zero, suc, Bool, true, false, ◌&&◌, nat_le, if◌then◌else◌, List, length, slice_get, Option, Some, None}
use Rattle.zed_types.specs.declared.tile.Place.{Place}
use Rattle.zed_types.specs.Table.{place_at}
use Rattle.zed_scene.specs.declared.stat.Stat.{Stat}
use Rattle.zed_oop_syntax.specs.declared.kinds.TileKind.{TileKind}
use Rattle.zed_scene.specs.Scene.{Scene, element_at, program_of, put, running_stat, same_place, tile_at}
use Rattle.zed_scene.specs.declared.step.Step.{Step}
use Rattle.zed_oop.specs.Acting.{changed}
use Rattle.zed_scene.specs.Trying.{is_nowhere, way_made}
use Rattle.zed_oop_syntax.specs.Kind.{matches, tile_of}
use Rattle.zed_oop_syntax.specs.Label.{least}
use Rattle.zed_scene.specs.Moving.{is_walkable}
use Rattle.zed_scene.specs.Places.{ahead}
use Rattle.zed_scene.specs.Removing.{remove_stat}
use Rattle.zed_oop.specs.Sending.{for_each, is_named}

-- the running stat is removed, unless it is gone or is the player
abbrev pub without_own : Option ℕ → Scene → Scene
without_own None s = s
without_own (Some i) s = remove_stat i s

-- the running stat is removed, and a kind stands at its place, of the colour that its tile had
abbrev pub became : TileKind → Place → Scene → Scene
became k p s = put p (tile_of k (tile_at s.tiles p).colour) (without_own s.running s)

-- a kind is put at a place, without a stat
abbrev pub put_if_walkable : TileKind → Place → Scene → Scene
put_if_walkable k n s = if is_walkable (element_at s n) then put n (tile_of k 15) s else s

-- a kind is put at the place ahead, after a push of what is in the way; off the table nothing is
abbrev pub put_onto : TileKind → Step → Option Place → Scene → Scene
put_onto k d None s = s
put_onto k d (Some n) s = put_if_walkable k n (way_made n d s)

-- a kind is put ahead, where that is on the board
unfoldable pub put_ahead : Place → Step → TileKind → Scene → Scene
put_ahead from d k s = if is_nowhere d then s else put_onto k d (ahead from d) s

-- whether there is a stat, and it is at this place
abbrev pub is_there : Place → Option Stat → Bool
is_there p None = false
is_there p (Some a) = same_place a.place p

-- stat i goes if it is at a place
abbrev pub cleared_one : ℕ → Place → Scene → Scene
cleared_one i p s = if is_there p (slice_get s.stats i) then remove_stat i s else s

-- the stats at a place among the first n are removed, but for the player, the last of them first
abbrev pub cleared_below : ℕ → Place → Scene → Scene
cleared_below zero p s = s
cleared_below (suc i) p s = cleared_below i p (cleared_one i p s)

-- a tile of the first kind becomes the second, and the stats there are removed, but for the player
abbrev pub changed_place : TileKind → TileKind → Place → Scene → Scene
changed_place first second p s =
    if matches first (tile_at s.tiles p)
    then put p (tile_of second (tile_at s.tiles p).colour) (cleared_below (length s.stats) p s)
    else s

-- the tile of number k, row by row, becomes the second kind if it is of the first
unfoldable pub changed_tile : TileKind → TileKind → ℕ → Scene → Scene
changed_tile first second k s = changed_place first second (place_at k) s

-- each tile of the one kind among the first n, row by row, becomes the other
unfoldable pub converted_to : ℕ → TileKind → TileKind → Scene → Scene
converted_to n first second s = for_each (changed_tile first second) n s

-- each tile of the one kind on the board, row by row, becomes the other
unfoldable pub converted : TileKind → TileKind → Scene → Scene
converted first second s = converted_to 1500 first second s

-- whether stat i, past the player, has a program of this name
abbrev pub has_name : Scene → List ℕ → ℕ → Option Stat → Bool
has_name s name i None = false
has_name s name i (Some a) = nat_le 1 i && is_named (program_of s a.program) name

-- the first stat past the player whose program has this name
unfoldable pub named : List ℕ → Scene → Option ℕ
named name s = least (λ i. has_name s name i (slice_get s.stats i)) (length s.stats)

-- the running stat gets the program of this stat, and begins it
abbrev pub bound_to : Option Stat → Scene → Scene
bound_to None s = s
bound_to (Some a) s = changed (λ b. record b { program = a.program; position = Some 0 }) (running_stat s) s

-- whether a stat of this name was found, and the board where the running stat has its program
abbrev pub bound_as : Option ℕ → Scene → Bool × Scene
bound_as None s = (false, s)
bound_as (Some i) s = (true, bound_to (slice_get s.stats i) s)

-- whether a stat has this name, and the board where the running stat begins the program of the first
abbrev pub bound : List ℕ → Scene → Bool × Scene
bound name s = bound_as (named name s) s
