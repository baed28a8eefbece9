-- A list in which one element is replaced.
use Rattle.std.proofs.Common.{◌≡◌, ◌≢◌, ◌<◌, ◌∙◌, ℕ, List, [], ◌∷◌, length, map, remove, set, slice_get, get_or, refl, ap, zero, suc}
use Rattle.std.proofs.lemmas.List.{get_or-map, get_or-set_same}
use Rattle.std.proofs.Math.Seq.{lt-length-set, map-set_same}

-- the others stay
pub others_at : {X : Type 0} (xs : List X) (i j : ℕ) (x : X) → j ≢ i → slice_get (set xs i x) j ≡ slice_get xs j
others_at [] i j x ne = refl
others_at (y ∷ xs) zero zero x ne = absurd (ne refl)
others_at (y ∷ xs) zero (suc j) x ne = refl
others_at (y ∷ xs) (suc i) zero x ne = refl
others_at (y ∷ xs) (suc i) (suc j) x ne = others_at xs i j x (λ e. ne (ap suc e))

-- what is so of an element and the one in its place is so of what the lists show there
pub replaced_at : {X Y : Type 0} (f : X → Y) (R : Y → Y → Type 0) (xs : List X) (i : ℕ) (old new : X) (y : Y)
    → i < length xs → old ≡ get_or xs i old → R (f old) (f new) → R (get_or (map f xs) i y) (get_or (map f (set xs i new)) i y)
replaced_at f R xs i old new y within is h =
    rw (get_or-map f xs i old y within, ← is, get_or-map f (set xs i new) i new y (lt-length-set xs i new within), get_or-set_same xs i new new within) h

-- what is so of an element and the one in its place is so of what the list showed there and what is taken out of it then
pub gone_at : {X Y : Type 0} (f : X → Y) (R : Y → Y → Type 0) (xs : List X) (i : ℕ) (old new gone : X) (y : Y)
    → i < length xs → old ≡ get_or xs i old → gone ≡ get_or (set xs i new) i gone → R (f old) (f new) → R (get_or (map f xs) i y) (f gone)
gone_at f R xs i old new gone y within is out h =
    let same : gone ≡ new = out ∙ get_or-set_same xs i new gone within in
    rw (get_or-map f xs i old y within, ← is, same) h

-- where the new element shows what the old one did, all show what they did
pub shown_same : {X Y : Type 0} (f : X → Y) (xs : List X) (i : ℕ) (old new : X) → old ≡ get_or xs i old → f new ≡ f old
    → map f (set xs i new) ≡ map f xs
shown_same f xs i old new is same = map-set_same f xs i new old (same ∙ ap f is)

-- without the new element they are what they were without the old one
pub removed_at : {X : Type 0} (xs : List X) (i : ℕ) (x : X) → remove (set xs i x) i ≡ remove xs i
removed_at [] zero x = refl
removed_at [] (suc i) x = refl
removed_at (y ∷ xs) zero x = refl
removed_at (y ∷ xs) (suc i) x = ap (λ zs. y ∷ zs) (removed_at xs i x)
