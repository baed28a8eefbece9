-- Going through a list and taking what isn't removed.
use Rattle.std.proofs.Common.{◌≡◌, ℕ, ◌+◌, ◌<◌, Bool, true, false, List, ◌∷◌, length, get_or, drop, ◌∙◌, refl}
use Rattle.std.specs.Prelude.{filter}
use Rattle.std.proofs.lemmas.List.{at_drop_more}

filter_yes : {X : Type 0} (p : X → Bool) (x : X) (xs : List X) → p x ≡ true → filter p (x ∷ xs) ≡ x ∷ filter p xs
filter_yes p x xs h = rw h refl

filter_no : {X : Type 0} (p : X → Bool) (x : X) (xs : List X) → p x ≡ false → filter p (x ∷ xs) ≡ filter p xs
filter_no p x xs h = rw h refl

-- the next member is one of those that pass
pub next_passes : {X : Type 0} (p : X → Bool) (xs : List X) (i : ℕ) (d : X) → i < length xs → p (get_or xs i d) ≡ true
    → filter p (drop i xs) ≡ get_or xs i d ∷ filter p (drop (i + 1) xs)
next_passes p xs i d lt h = at_drop_more (filter p) xs i d lt ∙ filter_yes p (get_or xs i d) (drop (i + 1) xs) h

-- the next member doesn't pass
pub next_fails : {X : Type 0} (p : X → Bool) (xs : List X) (i : ℕ) (d : X) → i < length xs → p (get_or xs i d) ≡ false
    → filter p (drop i xs) ≡ filter p (drop (i + 1) xs)
next_fails p xs i d lt h = at_drop_more (filter p) xs i d lt ∙ filter_no p (get_or xs i d) (drop (i + 1) xs) h
