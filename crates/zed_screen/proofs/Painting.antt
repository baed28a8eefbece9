-- Lists that are filled place by place.
use Rattle.std.proofs.Common.{◌≡◌, ◌<◌, ◌+◌, ℕ, zero, suc, List, [], ◌∷◌, Some, refl, slice_get, slice_set, length, arith}

-- with one place more
pub one_more : {X : Type 0} (f : ℕ → X) (xs : List X) (k : ℕ) (x : X) → k < length xs → x ≡ f k
    → ((j : ℕ) → j < k → slice_get xs j ≡ Some (f j)) → (j : ℕ) → j < k + 1
    → slice_get (slice_set xs k x) j ≡ Some (f j)
one_more f [] k x h e before j below = absurd (omega arith)
one_more f (y ∷ ys) zero x h e before zero below = rw e refl
one_more f (y ∷ ys) zero x h e before (suc j) below = absurd (omega arith)
one_more f (y ∷ ys) (suc k) x h e before zero below = before zero (omega arith)
one_more f (y ∷ ys) (suc k) x h e before (suc j) below =
    one_more (λ i. f (suc i)) ys k x (omega arith) e (λ i b. before (suc i) (omega arith)) j (omega arith)

-- the same of places that are as a relation tells
pub one_such : {X : Type 0} (P : ℕ → X → Type 0) (xs : List X) (k : ℕ) (x : X) → k < length xs → P k x
    → ((j : ℕ) → j < k → (y : X) × ((slice_get xs j ≡ Some y) × P j y)) → (j : ℕ) → j < k + 1
    → (y : X) × ((slice_get (slice_set xs k x) j ≡ Some y) × P j y)
one_such P [] k x h p before j below = absurd (omega arith)
one_such P (y ∷ ys) zero x h p before zero below = (x, (refl, p))
one_such P (y ∷ ys) zero x h p before (suc j) below = absurd (omega arith)
one_such P (y ∷ ys) (suc k) x h p before zero below = before zero (omega arith)
one_such P (y ∷ ys) (suc k) x h p before (suc j) below =
    one_such (λ i. P (suc i)) ys k x (omega arith) p (λ i b. before (suc i) (omega arith)) j (omega arith)
