-- Laws of steps, and of what players take along to another board.
use Rattle.std.specs.Prelude.{◌≡◌, ℕ, List, ◌++◌, slice_get, Option, Some}
use Rattle.zed_types.specs.declared.property.Side.{Side}
use Rattle.zed_types.specs.declared.tile.Place.{Place}
use Rattle.zed_world.specs.declared.board.BoardData.{BoardData}
use Rattle.zed_world.specs.Contents.{Contents}
use Rattle.zed_scene.specs.Scene.{tile_at}
use Rattle.zed_play.specs.declared.entering.Way.TheVariants.{Edge, Passage}
use Rattle.zed_play.specs.declared.key.Key.{Key}
use Rattle.zed_play.specs.Entering.{beyond, carried, entered}
use Rattle.zed_play.specs.Playtest.{Playtest}
use Rattle.zed_play.specs.Step.{Step}

-- a step by a key, with these words of chance, has one outcome; so where it lacks a word, it has no other
abbrev pub StepHasOneOutcome : Type 0
StepHasOneOutcome =
    (key : Key) (p : Playtest) (words : List ℕ) (a b : Option (Playtest × List ℕ)) →
    Step key p words a → Step key p words b → a ≡ b

-- a step by a key, with these words of chance, has an outcome
abbrev pub StepHasAnOutcome : Type 0
StepHasAnOutcome = (key : Key) (p : Playtest) (words : List ℕ) → (a : Option (Playtest × List ℕ)) × Step key p words a

-- a step uses words from the front, and those behind can be any others
abbrev pub LaterWordsDoNotMatter : Type 0
LaterWordsDoNotMatter =
    (key : Key) (p q : Playtest) (words left : List ℕ) → Step key p words (Some (q, left)) →
    (used : List ℕ) × ((words ≡ used ++ left) × ((more : List ℕ) → Step key p (used ++ more) (Some (q, more))))

-- ---- what players take along

-- a player has what another one has, but for the time on its board: counters, flags, keys and message lines, at the same tick
abbrev pub HasTheSame : Playtest → Playtest → Type 0
HasTheSame q p =
    (q.game.scene.counters ≡ carried p.game.scene.counters) × (q.game.scene.flags ≡ p.game.scene.flags)
    × (q.game.keys ≡ p.game.keys) × (q.game.messages ≡ p.game.messages) × (q.tick ≡ p.tick)

-- through a passage the player takes along what it has
abbrev pub PassagesTakeAll : Type 0
PassagesTakeAll =
    (w : Contents) (n colour : ℕ) (p q : Playtest) → entered w n (Passage colour) p ≡ Some q → HasTheSame q p

-- and over an edge, where nothing (0) stands at the place behind it
abbrev pub EdgesTakeAll : Type 0
EdgesTakeAll =
    (w : Contents) (n : ℕ) (b : BoardData) (side : Side) (from : Place) (p q : Playtest) →
    slice_get w.boards n ≡ Some b → (tile_at b.tiles (beyond side from)).element ≡ 0 →
    entered w n (Edge side from) p ≡ Some q → HasTheSame q p
