-- What comes of the player's touch.
use Rattle.std.specs.Prelude.{◌≡◌, ℕ, ◌-◌, ◌%◌, ◌/◌, Bool, true, false, not, ◌&&◌, ◌==◌, nat_le, if◌then◌else◌, List, codes, slice_get, slice_index_or, slice_set, Option, Some, None}
use Rattle.zed_types.specs.declared.tile.Place.{Place}
use Rattle.zed_types.specs.declared.tile.Tile.{Tile}
use Rattle.zed_scene.specs.declared.stat.Stat.{Stat}
use Rattle.zed_oop_syntax.specs.declared.commands.Counter.{Counter}
use Rattle.zed_oop_syntax.specs.declared.commands.Counter.TheVariants.{Health, Ammo, Gems, Torches, Score}
use Rattle.zed_scene.specs.Scene.{Scene, element_at, empty_tile, put, put_stat, running_stat, stat_at, tile_at}
use Rattle.zed_scene.specs.declared.step.Step.{Step}
use Rattle.zed_oop.specs.Holding.{given}
use Rattle.zed_scene.specs.Moving.{pushed}
use Rattle.zed_scene.specs.Removing.{attack}
use Rattle.zed_scene.specs.Words.{Drawn}
use Rattle.zed_play.specs.declared.game.Game.{Game}
use Rattle.zed_play.specs.declared.piece.Piece.{Piece}
use Rattle.zed_play.specs.declared.scrolls.Voice.TheVariants.{Scroll}
use Rattle.zed_play.specs.declared.piece.Piece.TheVariants.{Ammo as AmmoPiece, Torch, Gem, Key, Door, Passage, Energizer, Bullet, Forest, Boulder, Slider, Invisible, Bear, Object, Lion, Tiger}
use Rattle.zed_play.specs.Bullets.{taken_away, tells}
use Rattle.zed_play.specs.Game.{Then, TurnOf, leaves, with_scene}
use Rattle.zed_play.specs.Pieces.{piece_of}

-- a counter of the player's rises by so much, and stops at 32,767
abbrev pub gives : Counter → ℕ → Game → Game
gives k v g = with_scene (given k v g.scene) g

-- a tile is put at a place of the board
abbrev pub puts : Place → Tile → Game → Game
puts n t g = with_scene (put n t g.scene) g

-- what is at a place is taken from the board: the tile there is empty then
abbrev pub takes : Place → Game → Game
takes n g = puts n empty_tile g

-- ---- keys and doors, of colours 1 to 7

-- whether the player holds the key of colour k
abbrev pub has_key : ℕ → Game → Bool
has_key k g = slice_index_or g.keys (k - 1) false

-- the player holds the key of colour k from now on, or doesn't
abbrev pub with_key : ℕ → Bool → Game → Game
with_key k b g = record g { keys = slice_set g.keys (k - 1) b }

-- a key is taken, unless one of its colour is held
abbrev pub key_found : ℕ → Place → Game → Game
key_found k n g = if nat_le 1 k && not (has_key k g) then takes n (with_key k true g) else g

-- a door opens where the key of its colour is held, which is given up
abbrev pub door_opened : ℕ → Place → Game → Game
door_opened k n g = if nat_le 1 k && has_key k g then takes n (with_key k false g) else g

-- ---- passages

-- the player leaves for the board that a passage's stat has in P3; without a stat it stays
abbrev pub passed_to : Option Stat → Game → Game
passed_to None g = g
passed_to (Some a) g = leaves a.p3 g

-- the player leaves by the stat of this number, a passage's; without one it stays
abbrev pub passed_by : Option ℕ → Game → Game
passed_by None g = g
passed_by (Some i) g = passed_to (slice_get g.scene.stats i) g

-- ---- a line for each piece that is touched at a place, along a step

-- what comes of a touch along a step of a piece at a place, any but a scroll that has a stat
unfoldable pub touched : Piece → Tile → Place → Step → Game → Game
touched AmmoPiece t n d g = takes n (gives Ammo 5 g)
touched Gem t n d g = takes n (gives Score 10 (gives Health 1 (gives Gems 1 g)))
touched Torch t n d g = takes n (gives Torches 1 g)
touched Energizer t n d g = takes n g
touched Forest t n d g = takes n g
touched Key t n d g = key_found (t.colour % 8) n g
touched Door t n d g = door_opened (t.colour / 16 % 8) n g
touched Invisible t n d g = puts n (record { element = 22; colour = t.colour }) g
touched Boulder t n d g = with_scene (pushed n d g.scene) g
touched Slider t n d g = with_scene (pushed n d g.scene) g
touched Object t n d g = with_scene (tells (codes "TOUCH") n g.scene) g
touched Passage t n d g = passed_by (stat_at g.scene.stats n) g
touched Bear t n d g = with_scene (attack 0 n g.scene) g
touched Lion t n d g = with_scene (attack 0 n g.scene) g
touched Tiger t n d g = with_scene (attack 0 n g.scene) g
touched Bullet t n d g = with_scene (attack 0 n g.scene) g
touched _ t n d g = g

-- ---- scrolls

-- the number of the stat of a scroll at a place, if one stands there
abbrev pub scroll_at : Place → Scene → Option ℕ
scroll_at n s = if element_at s n == 10 then stat_at s.stats n else None

-- a stat begins its program anew
abbrev pub begun : ℕ → Option Stat → Scene → Scene
begun i None s = s
begun i (Some a) s = put_stat i (record a { position = Some 0 }) s

-- the program of stat i, a scroll, is begun anew
abbrev pub opened : ℕ → Game → Game
opened i g = with_scene (begun i (slice_get g.scene.stats i) g.scene) g

-- the stat that had its turn is taken away, if it still is a scroll
abbrev pub rolled : Option Stat → Scene → Scene
rolled None s = s
rolled (Some a) s = if element_at s a.place == 10 then taken_away s.running s else s

-- the scroll that had its turn is removed, if it still is one
abbrev pub closed : Game → Game
closed g = with_scene (rolled (running_stat g.scene) g.scene) g

-- ---- the touch

-- a touch of a place: the scroll there, of this number, has one turn; else the piece is touched
abbrev pub TouchesAs : Option ℕ → Place → Step → Game → List ℕ → Drawn Game → Type 0
TouchesAs None n d g ws e = e ≡ Some (touched (piece_of (element_at g.scene n)) (tile_at g.scene.tiles n) n d g, ws)
TouchesAs (Some i) n d g ws e = Then closed (TurnOf Scroll i (opened i g) ws) e

-- the player touches what is at a place, coming along a step
abbrev pub Touches : Place → Step → Game → List ℕ → Drawn Game → Type 0
Touches n d g ws e = TouchesAs (scroll_at n g.scene) n d g ws e
