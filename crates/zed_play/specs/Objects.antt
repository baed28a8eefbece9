-- Objects.
use Rattle.std.specs.Prelude.{◌≡◌, ℕ, not, ◌&&◌, ◌==◌, if◌then◌else◌, List, codes, Option, Some, None}
use Rattle.zed_types.specs.declared.tile.Place.{Place}
use Rattle.zed_scene.specs.declared.stat.Stat.{Stat}
use Rattle.zed_scene.specs.Scene.{Scene, acting_stat, element_at}
use Rattle.zed_scene.specs.Trying.{is_nowhere}
use Rattle.zed_scene.specs.Moving.{is_walkable}
use Rattle.zed_scene.specs.Places.{ahead}
use Rattle.zed_scene.specs.Words.{Drawn}
use Rattle.zed_play.specs.declared.game.Game.{Game}
use Rattle.zed_play.specs.declared.scrolls.Voice.TheVariants.{Object}
use Rattle.zed_play.specs.Acts.{moves}
use Rattle.zed_play.specs.Bullets.{told_at}
use Rattle.zed_play.specs.Game.{Then, TurnOf, with_scene}

-- the stat that acts is told that it bumped into something
abbrev pub thuds : Scene → Scene
thuds s = told_at (codes "THUD") s.acting s

-- it goes where it may
abbrev pub bumps : Option Place → Scene → Scene
bumps None s = thuds s
bumps (Some n) s = if is_walkable (element_at s n) then moves n s else thuds s

-- a stat that is an object with a step goes along it, or is told that it bumped; others stay
abbrev pub drifts : Option Stat → Scene → Scene
drifts None s = s
drifts (Some a) s =
    if element_at s a.place == 36 && not (is_nowhere a.step) then bumps (ahead a.place a.step) s else s

-- after its turn the stat goes along its step, if it is still there as an object
abbrev pub drifted : Game → Game
drifted g = with_scene (drifts (acting_stat g.scene) g.scene) g

-- stat i: a turn, unless its program has ended
abbrev pub ObjectDoes : Option ℕ → ℕ → Game → List ℕ → Drawn Game → Type 0
ObjectDoes None i g ws e = e ≡ Some (drifted g, ws)
ObjectDoes (Some position) i g ws e = Then drifted (TurnOf Object i g ws) e
