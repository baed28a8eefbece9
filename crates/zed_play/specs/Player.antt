-- The player, by the key.
use Rattle.std.specs.Prelude.{◌≡◌, ℕ, pos, int_lt, Bool, ◌&&◌, ◌==◌, nat_lt, if◌then◌else◌, List, length, filter, Option, Some, None}
use Rattle.zed_types.specs.declared.property.Side.{Side}
use Rattle.zed_types.specs.declared.property.Side.TheVariants.{North, South, West, East}
use Rattle.zed_types.specs.declared.tile.Place.{Place}
use Rattle.zed_scene.specs.declared.stat.Stat.{Stat}
use Rattle.zed_oop_syntax.specs.declared.commands.Counter.TheVariants.{Ammo}
use Rattle.zed_scene.specs.Scene.{Scene, acting_stat, element_at, same_place}
use Rattle.zed_scene.specs.declared.shooting.Shooter.TheVariants.{Player as PlayerShot}
use Rattle.zed_scene.specs.declared.step.Step.{Step}
use Rattle.zed_oop.specs.Holding.{taken_from}
use Rattle.zed_scene.specs.Moving.{is_walkable}
use Rattle.zed_scene.specs.Places.{ahead}
use Rattle.zed_scene.specs.Seeking.{east, north, south, west}
use Rattle.zed_scene.specs.Shooting.{shot}
use Rattle.zed_scene.specs.Words.{Drawn}
use Rattle.zed_play.specs.declared.game.Game.{Game}
use Rattle.zed_play.specs.declared.key.Intent.{Intent}
use Rattle.zed_play.specs.declared.key.Intent.TheVariants.{Nothing, Goes, Shoots}
use Rattle.zed_play.specs.declared.key.Bounds.{Bounds}
use Rattle.zed_play.specs.Acts.{moves}
use Rattle.zed_play.specs.Game.{Then, leaves, with_scene}
use Rattle.zed_play.specs.Touch.{Touches}

-- the step towards a side
abbrev pub step_of : Side → Step
step_of North = north
step_of South = south
step_of West = west
step_of East = east

-- ---- shots

-- the player's bullets that fly
abbrev pub is_flying : Scene → Stat → Bool
is_flying s a = a.p1 == 0 && element_at s a.place == 18

-- how many bullets of the player's fly
abbrev pub flying : Scene → ℕ
flying s = length (filter (is_flying s) s.stats)

-- 1 of the ammo is taken
abbrev pub spent : Bool × Scene → Scene
spent shot = if shot.0 then (taken_from Ammo 1 shot.1).1 else shot.1

-- a shot that doesn't fail takes ammo
abbrev pub fires : ℕ → Place → Step → Scene → Scene
fires most from d s =
    if int_lt (pos 0) s.counters.ammo && nat_lt (flying s) most then spent (shot from d PlayerShot s) else s

-- ---- moves

-- the board to a side, 0 for none
abbrev pub exit_of : Side → Bounds → ℕ
exit_of North b = b.north
exit_of South b = b.south
exit_of West b = b.west
exit_of East b = b.east

-- the player leaves for the board of an exit; 0 is none
abbrev pub goes_out : ℕ → Game → Game
goes_out exit g = if exit == 0 then g else leaves exit g

-- the stat that acts goes on to a place if it is where it was and may
abbrev pub goes_on : Place → Place → Option Stat → Scene → Scene
goes_on from n None s = s
goes_on from n (Some a) s = if same_place a.place from && is_walkable (element_at s n) then moves n s else s

-- the player goes on to a place, if it is where it was and may
abbrev pub walks : Place → Place → Game → Game
walks from n g = with_scene (goes_on from n (acting_stat g.scene) g.scene) g

-- a move: past the edge through that side's exit, else a touch of the place and then a step onto it
abbrev pub GoesTo : Option Place → Side → Bounds → Place → Game → List ℕ → Drawn Game → Type 0
GoesTo None side b from g ws e = e ≡ Some (goes_out (exit_of side b) g, ws)
GoesTo (Some n) side b from g ws e = Then (walks from n) (Touches n (step_of side) g ws) e

-- ---- the player

-- what the player does in its tick: nothing, a shot to a side, or a move to a side
abbrev pub PlayerDoes : Intent → Bounds → Place → Game → List ℕ → Drawn Game → Type 0
PlayerDoes Nothing b from g ws e = e ≡ Some (g, ws)
PlayerDoes (Shoots side) b from g ws e = e ≡ Some (with_scene (fires b.max_shots from (step_of side) g.scene) g, ws)
PlayerDoes (Goes side) b from g ws e = GoesTo (ahead from (step_of side)) side b from g ws e
