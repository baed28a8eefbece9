-- Places in a list of bytes, and elements of lists that grow.
use Rattle.std.proofs.Common.{◌≡◌, ◌⊎◌, inl, inr, ℕ, zero, suc, ◌+◌, ◌<◌, List, [], ◌∷◌, ◌++◌, length, drop, Some, refl, sym, ap, ◌∙◌, arith}
use Rattle.std.proofs.Math.Seq.{drop-nil}
use Rattle.std.specs.List.{slice_get}
use Rattle.std.specs.Int.{cast_signed}
use Rattle.std.specs.Int.{w16}
use Rattle.byteorder.specs.Endian.{little_number}
use Rattle.zed_world.specs.Fields.{integer_at}

pub drop_drop : {A : Type 0} (i n : ℕ) (xs : List A) → drop i (drop n xs) ≡ drop (n + i) xs
drop_drop i zero xs = ap (λ (k : ℕ). drop k xs) (omega arith)
drop_drop i (suc n) [] = drop-nil i ∙ sym (drop-nil (suc n + i))
drop_drop i (suc n) (x ∷ xs) = let k : suc n + i ≡ suc (n + i) = omega arith in rw k (drop_drop i n xs)

pub integer_there : (n i : ℕ) (bytes : List ℕ) → integer_at (drop n bytes) i ≡ integer_at bytes (n + i)
unfolding integer_at
integer_there n i bytes = ap (λ (x : List ℕ). cast_signed w16 (little_number 2 x)) (drop_drop i n bytes)

-- an element of a list with one more
pub get_push : {A : Type 0} (xs : List A) (y : A) (n : ℕ) (x : A) → slice_get (xs ++ y ∷ []) n ≡ Some x
    → (slice_get xs n ≡ Some x) ⊎ ((n ≡ length xs) × (x ≡ y))
get_push [] y zero x h = let same : y ≡ x = cc in inr (refl, rw same refl)
get_push [] y (suc n) x h = absurd cc
get_push (z ∷ xs) y zero x h = inl h
get_push (z ∷ xs) y (suc n) x h = elim (get_push xs y n x h) [ inl there ↦ inl there | inr last ↦ inr (omega (arith, last.0), last.1) ]

pub get_last : {A : Type 0} (xs ys : List A) (y : A) → slice_get (xs ++ y ∷ ys) (length xs) ≡ Some y
get_last [] ys y = refl
get_last (x ∷ xs) ys y = get_last xs ys y

pub get_front : {A : Type 0} (xs ys : List A) (n : ℕ) (x : A) → slice_get xs n ≡ Some x → slice_get (xs ++ ys) n ≡ Some x
get_front [] ys n x h = absurd cc
get_front (z ∷ xs) ys zero x h = h
get_front (z ∷ xs) ys (suc n) x h = get_front xs ys n x h

pub get_within : {A : Type 0} (xs : List A) (n : ℕ) → n < length xs → (x : A) × (slice_get xs n ≡ Some x)
get_within [] n h = absurd (omega arith)
get_within (x ∷ xs) zero h = (x, refl)
get_within (x ∷ xs) (suc n) h = get_within xs n (omega arith)
