-- Pushers.
use Rattle.std.specs.Prelude.{pos, negsuc, Bool, ◌&&◌, ◌||◌, if◌then◌else◌, Option, Some, None}
use Rattle.std.specs.Ordering.{int_eq}
use Rattle.zed_types.specs.declared.tile.Place.{Place}
use Rattle.zed_scene.specs.declared.stat.Stat.{Stat}
use Rattle.zed_scene.specs.Scene.{Scene, element_at}
use Rattle.zed_scene.specs.declared.step.Step.{Step}
use Rattle.zed_scene.specs.Trying.{way_made}
use Rattle.zed_scene.specs.Moving.{is_walkable}
use Rattle.zed_scene.specs.Places.{ahead}
use Rattle.zed_play.specs.Acts.{moves}

-- north, south, west or east
abbrev pub is_direction : Step → Bool
is_direction d =
    (int_eq d.x (pos 0) && (int_eq d.y (pos 1) || int_eq d.y (negsuc 0)))
    || (int_eq d.y (pos 0) && (int_eq d.x (pos 1) || int_eq d.x (negsuc 0)))

-- the stat that acts goes where it may
abbrev pub goes : Place → Scene → Scene
goes n s = if is_walkable (element_at s n) then moves n s else s

-- what can't be walked on is pushed, and then the pusher goes where it may
abbrev pub presses : Step → Option Place → Scene → Scene
presses d None s = s
presses d (Some n) s = goes n (way_made n d s)

-- a pusher's tick: it presses along its step, if that is one of the four directions
unfoldable pub pusher : Stat → Scene → Scene
pusher a s = if is_direction a.step then presses a.step (ahead a.place a.step) s else s
