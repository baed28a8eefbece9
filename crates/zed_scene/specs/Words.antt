-- Numbers of chance, by words that a caller hands in.
use Rattle.std.specs.Prelude.{◌≡◌, ℕ, ◌%◌, List, [], ◌∷◌, Option, Some, None, MatchResult, Result}
use Rattle.zed_scene.specs.declared.error.SceneError.{SceneError}
use Rattle.zed_scene.specs.declared.error.SceneError.TheVariants.{NoWords}

-- what is drawn, with the words that are left; none where a word is lacking
abbrev pub Drawn : Type 0 → Type 0
Drawn X = Option (X × List ℕ)

infixl 10 ◌>>=◌
-- what follows of what was drawn, by the words that it left; none where a word is lacking
abbrev pub ◌>>=◌ : {A B : Type 0} → Drawn A → (A × List ℕ → Drawn B) → Drawn B
None >>= f = None
(Some x) >>= f = f x

-- a number below n: the next word, mod n
abbrev pub draw : ℕ → List ℕ → Drawn ℕ
draw n [] = None
draw n (w ∷ ws) = Some (w % n, ws)

-- a call drew this and left these words, or it told that one is lacking
abbrev pub Draws : {X : Type 0} → Result X SceneError → List ℕ → Drawn X → Type 0
Draws result left drawn = MatchResult result (λ x. drawn ≡ Some (x, left)) (λ e. (e ≡ NoWords) × (drawn ≡ None))
