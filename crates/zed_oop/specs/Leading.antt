-- Where directions lead.
use Rattle.std.specs.Prelude.{ℕ, ◌==◌, if◌then◌else◌, List, [], ◌∷◌, Option, Some, None}
use Rattle.zed_scene.specs.declared.stat.Stat.{Stat}
use Rattle.zed_oop_syntax.specs.declared.heading.Course.{Course}
use Rattle.zed_oop_syntax.specs.declared.heading.Course.TheVariants.{North, South, East, West, Idle, Seek, Flow, Random, RandomNorthOrSouth, RandomNorthOrEast}
use Rattle.zed_oop_syntax.specs.declared.heading.Turning.{Turning}
use Rattle.zed_oop_syntax.specs.declared.heading.Turning.TheVariants.{Clockwise, CounterClockwise, Opposite, Sideways}
use Rattle.zed_scene.specs.Scene.{Scene}
use Rattle.zed_scene.specs.declared.step.Step.{Step}
use Rattle.zed_scene.specs.Places.{clockwise, counter_clockwise, opposite}
use Rattle.zed_scene.specs.Words.{Drawn, draw, ◌>>=◌}
use Rattle.zed_scene.specs.Seeking.{still, north, south, east, west, random_step, sought, up_or_down}

-- a step, turned
abbrev pub turned : Turning → Step → List ℕ → Drawn Step
turned Clockwise d ws = Some (clockwise d, ws)
turned CounterClockwise d ws = Some (counter_clockwise d, ws)
turned Opposite d ws = Some (opposite d, ws)
turned Sideways d ws = do
  r ← draw 2 ws
  Some (if r.0 == 0 then clockwise d else counter_clockwise d, r.1)

-- the innermost turning is the last of the list, and is made first
abbrev pub turned_all : List Turning → Step → List ℕ → Drawn Step
turned_all [] d ws = Some (d, ws)
turned_all (t ∷ ts) d ws = do
  e ← turned_all ts d ws
  turned t e.0 e.1

-- 0 is north, 1 east
abbrev pub north_or_east : List ℕ → Drawn Step
north_or_east ws = do
  r ← draw 2 ws
  Some (if r.0 == 0 then north else east, r.1)

-- where a direction leads that isn't turned
abbrev pub course_led : Course → Stat → Scene → List ℕ → Drawn Step
course_led North a s ws = Some (north, ws)
course_led South a s ws = Some (south, ws)
course_led East a s ws = Some (east, ws)
course_led West a s ws = Some (west, ws)
course_led Idle a s ws = Some (still, ws)
course_led Flow a s ws = Some (a.step, ws)
course_led Seek a s ws = sought a.place s ws
course_led Random a s ws = random_step ws
course_led RandomNorthOrSouth a s ws = up_or_down ws
course_led RandomNorthOrEast a s ws = north_or_east ws

-- what was drawn is a direction
abbrev pub known : Drawn Step → Drawn (Option Step)
known drawn = do
  d ← drawn
  Some (Some d.0, d.1)

-- where a direction leads; none, without a word drawn, where it is no direction
unfoldable pub led : List Turning → Option Course → Stat → Scene → List ℕ → Drawn (Option Step)
led ts None a s ws = Some (None, ws)
led ts (Some c) a s ws = do
  d ← course_led c a s ws
  known (turned_all ts d.0 d.1)
