-- What the stat that ticks does, and what calls answer.
use Rattle.std.specs.Prelude.{◌≡◌, ◌⊎◌, ℕ, List, Option, Some, None, MatchResult, Result}
use Rattle.zed_types.specs.declared.tile.Place.{Place}
use Rattle.zed_scene.specs.declared.error.SceneError.{SceneError}
use Rattle.zed_scene.specs.declared.error.SceneError.TheVariants.{Memory, NoWords}
use Rattle.zed_scene.specs.Scene.{Scene}
use Rattle.zed_scene.specs.Removing.{attack}
use Rattle.zed_scene.specs.Moving.{shift}
use Rattle.zed_scene.specs.Words.{Drawn}

-- the stat that acts moves to a place, if it is still there
abbrev pub acting_moves : Option ℕ → Place → Scene → Scene
acting_moves None n s = s
acting_moves (Some i) n s = shift i n s

-- the stat that acts moves to a place, unless it is gone
abbrev pub moves : Place → Scene → Scene
moves n s = acting_moves s.acting n s

-- the stat that acts attacks a place, if it is still there
abbrev pub acting_attacks : Option ℕ → Place → Scene → Scene
acting_attacks None n s = s
acting_attacks (Some i) n s = attack i n s

-- the stat that acts attacks a place, unless it is gone
abbrev pub attacks : Place → Scene → Scene
attacks n s = acting_attacks s.acting n s

-- a call did this to the board and left these words, or told that one is lacking
abbrev pub Acts : {X : Type 0} → Result X SceneError → Scene → List ℕ → Drawn Scene → Type 0
Acts result s left drawn =
    MatchResult result (λ _. drawn ≡ Some (s, left)) (λ e. (e ≡ NoWords) × (drawn ≡ None))

-- the same, or memory was refused
abbrev pub Grows : {X : Type 0} → Result X SceneError → Scene → List ℕ → Drawn Scene → Type 0
Grows result s left drawn =
    MatchResult result (λ _. drawn ≡ Some (s, left)) (λ e. (e ≡ Memory) ⊎ ((e ≡ NoWords) × (drawn ≡ None)))
