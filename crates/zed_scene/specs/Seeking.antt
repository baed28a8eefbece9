-- Steps towards the player, and by chance.
use Rattle.std.specs.Prelude.{ℕ, ℤ, pos, negsuc, Bool, ◌||◌, ◌==◌, if◌then◌else◌, List, slice_get, Option, Some, None}
use Rattle.std.specs.Ordering.{int_eq}
use Rattle.zed_types.specs.declared.tile.Place.{Place}
use Rattle.zed_scene.specs.declared.stat.Stat.{Stat}
use Rattle.zed_scene.specs.declared.step.Step.{Step}
use Rattle.zed_scene.specs.Places.{sign_of}
use Rattle.zed_scene.specs.Scene.{Scene}
use Rattle.zed_scene.specs.Words.{Drawn, draw, ◌>>=◌}

-- the step that leads nowhere
abbrev pub still : Step
still = record { x = pos 0; y = pos 0 }

-- the step one row up
abbrev pub north : Step
north = record { x = pos 0; y = negsuc 0 }

-- the step one row down
abbrev pub south : Step
south = record { x = pos 0; y = pos 1 }

-- the step one column to the right
abbrev pub east : Step
east = record { x = pos 1; y = pos 0 }

-- the step one column to the left
abbrev pub west : Step
west = record { x = negsuc 0; y = pos 0 }

-- along the columns, where they are asked for or the rows agree; where that is no step, along the rows
abbrev pub towards : Place → Place → Bool → Step
towards from to columns =
    let x : ℤ = if columns || from.y == to.y then sign_of to.x from.x else pos 0 in
    if int_eq x (pos 0) then record { x = pos 0; y = sign_of to.y from.y } else record { x = x; y = pos 0 }

-- where a stat is, or the place given where there is no stat
abbrev pub place_of : Place → Option Stat → Place
place_of p None = p
place_of p (Some a) = a.place

-- where the player is, or the place given where there is no player
abbrev pub player_place : Scene → Place → Place
player_place s p = place_of p (slice_get s.stats 0)

-- the step towards the player: a word is always taken, and 0 stands for the columns
abbrev pub sought : Place → Scene → List ℕ → Drawn Step
sought from s ws = do
  r ← draw 2 ws
  Some (towards from (player_place s from) (r.0 == 0), r.1)

-- 0 is north, 1 south
abbrev pub up_or_down : List ℕ → Drawn Step
up_or_down ws = do
  r ← draw 2 ws
  Some (if r.0 == 0 then north else south, r.1)

-- the columns' step is the number less 1: west for 0, east for 2; for 1 a second number says north or south
abbrev pub random_step : List ℕ → Drawn Step
random_step ws = do
  r ← draw 3 ws
  if r.0 == 0 then Some (west, r.1) else if r.0 == 2 then Some (east, r.1) else up_or_down r.1
