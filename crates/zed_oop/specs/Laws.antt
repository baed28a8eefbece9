-- Laws of turns.
use Rattle.std.specs.Prelude.{◌≡◌, ℕ, List, ◌++◌, slice_get, Option, Some, None}
use Rattle.zed_scene.specs.declared.stat.Stat.{Stat}
use Rattle.zed_scene.specs.Scene.{Scene}
use Rattle.zed_oop.specs.Turn.{State, Turn, TurnTakes, position_of}

-- a turn of a stat with these words of chance comes to one thing; so where it lacks a word, it has no other end
abbrev pub TurnHasOneOutcome : Type 0
TurnHasOneOutcome = (s : Scene) (i : ℕ) (ws : List ℕ) (e f : Option State) → Turn s i ws e → Turn s i ws f → e ≡ f

-- a turn of a stat with these words of chance comes to something: it has an end, or lacks a word
abbrev pub TurnHasAnOutcome : Type 0
TurnHasAnOutcome = (s : Scene) (i : ℕ) (ws : List ℕ) → (e : Option State) × Turn s i ws e

-- a turn uses words from the front, and those behind can be any others
abbrev pub LaterWordsDoNotMatter : Type 0
LaterWordsDoNotMatter =
    (s : Scene) (i : ℕ) (ws : List ℕ) (u : State) → Turn s i ws (Some u) →
    (used : List ℕ) × ((ws ≡ used ++ u.left) × ((more : List ℕ) → Turn s i (used ++ more) (Some (record u { left = more }))))

-- a turn of a stat that isn't there, or whose program has ended, takes no memory
abbrev pub EndedTurnsTakeNone : Type 0
EndedTurnsTakeNone =
    (s : Scene) (i : ℕ) (ws : List ℕ) → position_of (slice_get s.stats i) ≡ None → TurnTakes s i ws → ⊥

-- a turn of a stat without a program takes no memory
abbrev pub TurnsOfNoneTakeNone : Type 0
TurnsOfNoneTakeNone =
    (s : Scene) (i : ℕ) (ws : List ℕ) (a : Stat) → slice_get s.stats i ≡ Some a → a.program ≡ None → TurnTakes s i ws → ⊥
