-- Shots.
use Rattle.std.specs.Prelude.{ℕ, Bool, true, false, ◌&&◌, ◌||◌, not, ◌==◌, nat_le, if◌then◌else◌, [], ◌∷◌, ◌++◌, length, Option, Some, None}
use Rattle.zed_types.specs.declared.tile.Place.{Place}
use Rattle.zed_types.specs.declared.tile.Tile.{Tile}
use Rattle.zed_scene.specs.declared.stat.Stat.{Stat}
use Rattle.zed_scene.specs.declared.shooting.Shooter.{Shooter}
use Rattle.zed_scene.specs.declared.shooting.Shooter.TheVariants.{Player, Creature}
use Rattle.zed_scene.specs.declared.step.Step.{Step}
use Rattle.zed_scene.specs.Places.{ahead}
use Rattle.zed_scene.specs.Scene.{Scene, element_at, put, tile_at}
use Rattle.zed_scene.specs.Removing.{damage}
use Rattle.zed_scene.specs.Moving.{is_walkable, is_destructible}

-- by whom a bullet was shot, as its P1 tells: 0 the player, 1 a creature
abbrev pub p1_of : Shooter → ℕ
p1_of Player = 0
p1_of Creature = 1

-- players are hit by creatures, and all else that can be destroyed by players; breakable walls by both
abbrev pub is_hit : ℕ → Shooter → Bool
is_hit n Player = n == 23 || (is_destructible n && not (n == 4))
is_hit n Creature = n == 23 || (is_destructible n && n == 4)

-- a new bullet at a place, which flies along a step in each tick, over the tile that was there
abbrev pub bullet : Place → Step → Shooter → Tile → Stat
bullet p d shooter under =
    record {
      place = p;
      step = d;
      cycle = 1;
      p1 = p1_of shooter;
      p2 = 0;
      p3 = 0;
      follower = None;
      leader = None;
      under = under;
      position = Some 0;
      program = None;
    }

-- with one stat more
abbrev pub with_stat : Stat → Scene → Scene
with_stat a s = record s { stats = s.stats ++ a ∷ [] }

-- a bullet flies at a place, unless there are 150 stats beside the player
abbrev pub fired : Place → Step → Shooter → Scene → Bool × Scene
fired n d shooter s =
    if nat_le 151 (length s.stats) then (false, s)
    else (true, put n (record { element = 18; colour = 15 }) (with_stat (bullet n d shooter (tile_at s.tiles n)) s))

-- whether a shot at what is ahead adds a bullet: it may fly there, and fewer than 150 stats are beside the player
abbrev pub lets_fly : Option Place → Scene → Bool
lets_fly None s = false
lets_fly (Some n) s = (is_walkable (element_at s n) || element_at s n == 19) && not (nat_le 151 (length s.stats))

-- a shot at what is ahead: it flies there, or damages what it hits, or fails, as it does off the table
abbrev pub shot_onto : Option Place → Step → Shooter → Scene → Bool × Scene
shot_onto None d shooter s = (false, s)
shot_onto (Some n) d shooter s =
    if is_walkable (element_at s n) || element_at s n == 19 then fired n d shooter s
    else if is_hit (element_at s n) shooter then (true, damage n s)
    else (false, s)

-- whether a shot along a step didn't fail, and the scene after it
unfoldable pub shot : Place → Step → Shooter → Scene → Bool × Scene
shot p d shooter s = shot_onto (ahead p d) d shooter s
