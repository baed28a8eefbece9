-- Lists with another element.
use Rattle.std.proofs.Common.{◌≡◌, ◌<◌, ℕ, zero, suc, List, [], ◌∷◌, length, arith, refl, None, Some, Option, option_map, subst, sym}
use Rattle.std.specs.Prelude.{slice_get, slice_set}
use Rattle.std.specs.List.{AllByRecursion, ItemBy}
use Rattle.std.proofs.lemmas.Option.{slice_get_past, slice_get_read}

pub length_set : {X : Type 0} (xs : List X) (n : ℕ) (x : X) → length (slice_set xs n x) ≡ length xs
length_set [] n x = refl
length_set (y ∷ xs) zero x = refl
length_set (y ∷ xs) (suc n) x = let more = length_set xs n x in omega (arith, more)

pub all_set : {X : Type 0} (P : X → Type 0) (xs : List X) (n : ℕ) (x : X) → AllByRecursion P xs → P x → AllByRecursion P (slice_set xs n x)
all_set P [] n x all is = tt
all_set P (y ∷ xs) zero x all is = (is, all.1)
all_set P (y ∷ xs) (suc n) x all is = (all.0, all_set P xs n x all.1 is)

-- the new element is one of them
pub set_had : {X : Type 0} (P : X → Type 0) (xs : List X) (n : ℕ) (x : X) → n < length xs → AllByRecursion P (slice_set xs n x) → P x
set_had P [] n x lt all = absurd (omega (arith, lt))
set_had P (y ∷ xs) zero x lt all = all.0
set_had P (y ∷ xs) (suc n) x lt all = set_had P xs n x (omega (arith, lt)) all.1

pub all_get : {X : Type 0} (P : X → Type 0) (xs : List X) (n : ℕ) (x : X) → AllByRecursion P xs → slice_get xs n ≡ Some x → P x
all_get P [] n x all at = absurd (cc)
all_get P (y ∷ xs) zero x all at = let e : y ≡ x = cc in subst P e all.0
all_get P (y ∷ xs) (suc n) x all at = all_get P xs n x all.1 at

-- what `get` gives
pub got : {R X : Type 0} (now : R → X) (xs : List X) (i : ℕ) (r : Option R) → ItemBy now xs i i r → option_map now r ≡ slice_get xs i
got now xs i None g = sym (slice_get_past xs i g.3)
got now xs i (Some x) g = sym (slice_get_read xs (length xs) i (now x) refl g.3.0 g.1)
