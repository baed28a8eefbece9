-- A step: a chain of at most 1,024 looks at stats, and what comes of it.
use Rattle.std.specs.Prelude.{◌≡◌, ◌⊎◌, ℕ, ℤ, zero, suc, pos, ◌+◌, ◌-◌, int_lt, Bool, true, false, nat_le, nat_lt, if◌then◌else◌, List, [], length, slice_get, Option, Some, None, is_some, Result, Ok, Err}
use Rattle.zed_scene.specs.declared.stat.Stat.{Stat}
use Rattle.zed_scene.specs.declared.error.SceneError.{SceneError}
use Rattle.zed_scene.specs.declared.error.SceneError.TheVariants.{Memory, NoWords}
use Rattle.zed_scene.specs.Scene.{Scene}
use Rattle.zed_scene.specs.Words.{Drawn}
use Rattle.zed_play.specs.declared.error.PlayError.{PlayError}
use Rattle.zed_play.specs.declared.error.PlayError.TheVariants.{Memory as PlayMemory, NoWords as PlayNoWords, NoBoard, Over}
use Rattle.zed_play.specs.declared.game.Game.{Game}
use Rattle.zed_play.specs.declared.key.Asked.{Asked}
use Rattle.zed_play.specs.declared.key.Intent.{Intent}
use Rattle.zed_play.specs.declared.key.Intent.TheVariants.{Nothing, Goes, Shoots}
use Rattle.zed_play.specs.declared.key.Key.{Key}
use Rattle.zed_play.specs.declared.key.Key.TheVariants.{Wait, North, South, West, East, ShootNorth, ShootSouth, ShootWest, ShootEast}
use Rattle.zed_play.specs.declared.ending.Ending.{Ending}
use Rattle.zed_play.specs.declared.ending.Ending.TheVariants.{Left, Died, Failed}
use Rattle.zed_types.specs.declared.property.Side.TheVariants.{North as ToNorth, South as ToSouth, West as ToWest, East as ToEast}
use Rattle.zed_play.specs.Game.{with_scene}
use Rattle.zed_play.specs.Playtest.{Playtest}
use Rattle.zed_play.specs.Tick.{LooksAt}

-- what the player does by a key
abbrev pub intent_of : Key → Intent
intent_of Wait = Nothing
intent_of North = Goes ToNorth
intent_of South = Goes ToSouth
intent_of West = Goes ToWest
intent_of East = Goes ToEast
intent_of ShootNorth = Shoots ToNorth
intent_of ShootSouth = Shoots ToSouth
intent_of ShootWest = Shoots ToWest
intent_of ShootEast = Shoots ToEast

-- the stat to be looked at
abbrev pub looked_at : Game → Option Stat
looked_at g = slice_get g.scene.stats g.scene.ticking

-- on to the next stat, if there may be one
abbrev pub next_in : Scene → Scene
next_in s = if nat_lt s.ticking (length s.stats) then record s { ticking = s.ticking + 1 } else s

-- on to the next stat of a game, if there may be one
abbrev pub next : Game → Game
next g = with_scene (next_in g.scene) g

-- stats are looked at by rising number, those added too, with so many looks left: what comes of it, or none where a word is lacking
pub data Looks : Asked → ℕ → Game → List ℕ → Drawn Game → Type 0 where
  used_up : (k : Asked) (g : Game) (ws : List ℕ) → Looks k zero g ws (Some (g, ws))
  over : (k : Asked) (n : ℕ) (g : Game) (ws : List ℕ) → looked_at g ≡ None → Looks k (suc n) g ws (Some (g, ws))
  looked : (k : Asked) (n : ℕ) (a : Stat) (g h : Game) (ws left : List ℕ) (e : Drawn Game) → looked_at g ≡ Some a
      → LooksAt k g.scene.ticking a g ws (Some (h, left)) → Looks k n (next h) left e
      → Looks k (suc n) g ws e
  lacked : (k : Asked) (n : ℕ) (a : Stat) (g : Game) (ws : List ℕ) → looked_at g ≡ Some a → LooksAt k g.scene.ticking a g ws None
      → Looks k (suc n) g ws None

-- ---- the step

-- 1 to 420
abbrev pub next_tick : ℕ → ℕ
next_tick t = if nat_le 420 t then 1 else t + 1

-- the player has died where its health is 0 or below
abbrev pub died : ℤ → Option Ending
died health = if int_lt (pos 0) health then None else Some Died

-- how the playtest has ended, if it has: the player left for a board, or else died
abbrev pub ending_by : Option ℕ → ℤ → Option Ending
ending_by (Some board) health = Some (Left board)
ending_by None health = died health

-- from the first stat on, before anything is said
abbrev pub from_first : Game → Game
from_first g = with_scene (record g.scene { ticking = 0; scrolls = [] }) g

-- a playtest after a step that came to this game: a tick later, and ended if it is over
abbrev pub closed_with : Game → Playtest → Playtest
closed_with g p = record p { game = g; tick = next_tick p.tick; ending = ending_by g.left g.scene.counters.health }

-- a playtest after its step, with the words that are left; none where a word is lacking
abbrev pub closed_by : Playtest → Drawn Game → Option (Playtest × List ℕ)
closed_by p None = None
closed_by p (Some x) = Some (closed_with x.0 p, x.1)

-- what a step is made with: the tick, what the key asks for, and what bounds the player
abbrev pub asked : Key → Playtest → Asked
asked key p = record { tick = p.tick; intent = intent_of key; bounds = p.bounds }

-- the playtest after a step with the words that are left, or none where one is lacking
abbrev pub Step : Key → Playtest → List ℕ → Option (Playtest × List ℕ) → Type 0
Step key p ws o = (d : Drawn Game) × (Looks (asked key p) 1024 (from_first p.game) ws d × (o ≡ closed_by p d))

-- ---- what calls answer

-- what is told of a step that isn't made, and the playtest after it: nothing changes where a word is lacking, and it fails for memory
abbrev pub refused : SceneError → Playtest → PlayError × Playtest
refused NoWords p = (PlayNoWords, p)
refused Memory p = (PlayMemory, record p { ending = Some Failed })

-- one look: whether there was a stat, and then how the chain goes on
abbrev pub LooksOn : Result Bool SceneError → Asked → Game → List ℕ → Game → List ℕ → Type 0
LooksOn (Ok false) k g ws h left = (n : ℕ) → Looks k (suc n) g ws (Some (h, left))
LooksOn (Ok true) k g ws h left = (n : ℕ) (e : Drawn Game) → Looks k n h left e → Looks k (suc n) g ws e
LooksOn (Err x) k g ws h left = (x ≡ Memory) ⊎ ((x ≡ NoWords) × ((n : ℕ) → Looks k (suc n) g ws None))

-- a step was made and used so many words; or, with nothing changed, a word is lacking or the playtest had ended; or memory was
-- refused, with which it ends
abbrev pub Steps : Result ℕ PlayError → Key → Playtest → List ℕ → Playtest → Type 0
Steps (Ok n) key p ws q = (p.ending ≡ None) × ((left : List ℕ) × (Step key p ws (Some (q, left)) × (n ≡ length ws - length left)))
Steps (Err PlayNoWords) key p ws q = (p.ending ≡ None) × (Step key p ws None × (q ≡ p))
Steps (Err Over) key p ws q = (is_some p.ending ≡ true) × (q ≡ p)
Steps (Err PlayMemory) key p ws q = (p.ending ≡ None) × (q ≡ record p { ending = Some Failed })
Steps (Err NoBoard) key p ws q = true ≡ false
