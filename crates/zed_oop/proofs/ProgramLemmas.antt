-- A program that is put twice.
use Rattle.std.proofs.Common.{◌≡◌, ℕ, zero, suc, List, [], ◌∷◌, slice_set, refl, ap}

-- what is written twice at a place is what was written last
pub put_twice : {X : Type 0} (xs : List X) (i : ℕ) (x y : X) → slice_set (slice_set xs i x) i y ≡ slice_set xs i y
put_twice [] i x y = refl
put_twice (z ∷ xs) zero x y = refl
put_twice (z ∷ xs) (suc i) x y = ap (λ l. z ∷ l) (put_twice xs i x y)
