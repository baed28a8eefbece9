-- How stats and tiles move, and what they push.
use Rattle.std.specs.Prelude.{ℕ, pos, suc, zero, Bool, true, false, ◌&&◌, not, ◌==◌, if◌then◌else◌, slice_get, Option, Some, None}
use Rattle.std.specs.Ordering.{int_eq}
use Rattle.zed_types.specs.declared.tile.Place.{Place}
use Rattle.zed_types.specs.declared.kind.Push.{Push}
use Rattle.zed_types.specs.declared.kind.Push.TheVariants.{Not, Any, NorthSouth, EastWest}
use Rattle.zed_types.specs.Elements.{row_of}
use Rattle.zed_scene.specs.declared.stat.Stat.{Stat}
use Rattle.zed_scene.specs.declared.step.Step.{Step}
use Rattle.zed_scene.specs.Places.{ahead}
use Rattle.zed_scene.specs.Scene.{Scene, element_at, empty_tile, put, put_stat, stat_at, tile_at}
use Rattle.zed_scene.specs.Removing.{damage}

-- whether an element can be walked on
unfoldable pub is_walkable : ℕ → Bool
is_walkable n = (row_of n).walkable

-- whether an element can be destroyed
unfoldable pub is_destructible : ℕ → Bool
is_destructible n = (row_of n).destructible

-- whether what can be pushed in this way goes along a step: never, always, or along one axis alone
abbrev pub gives_way : Push → Step → Bool
gives_way Not d = false
gives_way Any d = true
gives_way NorthSouth d = int_eq d.x (pos 0)
gives_way EastWest d = int_eq d.y (pos 0)

-- whether an element is pushable along a step
unfoldable pub is_pushable : ℕ → Step → Bool
is_pushable n d = gives_way (row_of n).push d

-- whether what is pushed against an element destroys it
abbrev pub is_crushable : ℕ → Bool
is_crushable n = not (is_walkable n) && is_destructible n && not (n == 4)

-- stat i moves to a place: what stands there is then under it, and what was under it stands where it was
abbrev pub shifted : ℕ → Place → Option Stat → Scene → Scene
shifted i to None s = s
shifted i to (Some a) s =
    put_stat i (record a { place = to; under = tile_at s.tiles to }) (put a.place a.under (put to (tile_at s.tiles a.place) s))

-- stat i moves to a place, if there is a stat of this number
abbrev pub shift : ℕ → Place → Scene → Scene
shift i to s = shifted i to (slice_get s.stats i) s

-- what is at a place moves to another
abbrev pub carried_as : Option ℕ → Place → Place → Scene → Scene
carried_as None from to s = put from empty_tile (put to (tile_at s.tiles from) s)
carried_as (Some i) from to s = shift i to s

-- what is at a place moves to another: the lowest stat there, or without one the tile alone
abbrev pub carried : Place → Place → Scene → Scene
carried from to s = carried_as (stat_at s.stats from) from to s

-- what pushing destroys at a place is destroyed
abbrev pub cleared : Place → Scene → Scene
cleared p s = if is_crushable (element_at s p) then damage p s else s

-- what was pushed goes on to the next place if it may
unfoldable pub pushed_onto : Place → Place → Scene → Scene
pushed_onto from to s =
    let t = cleared to s in
    if is_walkable (element_at t to) then carried from to t else t

-- what is at a place is pushed along a step, with `reach` places of the table at most in the way
abbrev pub pushed_by : ℕ → Place → Step → Scene → Scene
pushed_by zero p d s = s
pushed_by (suc reach) p d s =
    if is_pushable (element_at s p) d then
    elim (ahead p d) [ None ↦ s | Some n ↦ pushed_onto p n (if element_at s n == 0 then s else pushed_by reach n d s) ]
    else s

-- what is at a place is pushed along a step, after what is in its way; no line is longer than 60
unfoldable pub pushed : Place → Step → Scene → Scene
pushed p d s = pushed_by 60 p d s
