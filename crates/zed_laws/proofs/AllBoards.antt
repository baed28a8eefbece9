-- What holds of each of some boards, when some are changed or more come.
use Rattle.std.proofs.Common.{◌≡◌, ℕ, zero, suc, Bool, true, false, cond, set, List, [], ◌∷◌, map, refl}
use Rattle.std.specs.List.{AllByRecursion}
use Rattle.zed_edit.specs.Document.{change_such}

-- each of some things changed where a test says so
pub each_changed : {X : Type 0} (P : X → Type 0) (test : X → Bool) (f : X → X) (xs : List X) → ((x : X) → test x ≡ true → P x → P (f x))
    → AllByRecursion P xs
    → AllByRecursion P (change_such test f xs)
each_changed P test f [] keeps h = tt
each_changed P test f (x ∷ xs) keeps h = (one (test x) refl, each_changed P test f xs keeps h.1)
  where
    one : (t : Bool) → test x ≡ t → P (cond t (f x) x)
    one true e = keeps x e h.0
    one false e = h.0

pub all_mapped : {X : Type 0} (P : X → Type 0) (f : X → X) (xs : List X) → ((x : X) → P x → P (f x)) → AllByRecursion P xs
    → AllByRecursion P (map f xs)
all_mapped P f [] keeps h = tt
all_mapped P f (x ∷ xs) keeps h = (keeps x h.0, all_mapped P f xs keeps h.1)

-- one of some things replaced by another
pub all_set : {X : Type 0} (P : X → Type 0) (xs : List X) (i : ℕ) (y : X) → P y → AllByRecursion P xs → AllByRecursion P (set xs i y)
all_set P [] i y k h = tt
all_set P (x ∷ xs) zero y k h = (k, h.1)
all_set P (x ∷ xs) (suc i) y k h = (h.0, all_set P xs i y k h.1)
