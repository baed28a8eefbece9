-- Lists that are filled place by place.
use Rattle.std.proofs.Common.{◌≡◌, ◌∙◌, ◌<◌, ◌≤◌, ◌+◌, ℕ, zero, suc, List, [], ◌∷◌, Some, ap, refl, map, slice_get, slice_set, length, arith}
use Rattle.std.specs.List.{range_with_len}
use Rattle.zed_look.specs.declared.look.Picture.{Picture}
use Rattle.zed_look.specs.declared.look.Spot.{Spot}
use Rattle.zed_look.specs.Drawing.{picture_of, row_of}

-- with one place more
pub one_more : {X : Type 0} (f : ℕ → X) (xs : List X) (k : ℕ) (x : X) → k < length xs → x ≡ f k
    → ((j : ℕ) → j < k → slice_get xs j ≡ Some (f j)) → (j : ℕ) → j < k + 1
    → slice_get (slice_set xs k x) j ≡ Some (f j)
one_more f [] k x h e before j below = absurd (omega arith)
one_more f (y ∷ ys) zero x h e before zero below = rw e refl
one_more f (y ∷ ys) zero x h e before (suc j) below = absurd (omega arith)
one_more f (y ∷ ys) (suc k) x h e before zero below = before zero (omega arith)
one_more f (y ∷ ys) (suc k) x h e before (suc j) below =
    one_more (λ i. f (suc i)) ys k x (omega arith) e (λ i b. before (suc i) (omega arith)) j (omega arith)

-- with all of them
pub all_filled : {X : Type 0} (f : ℕ → X) (a n : ℕ) (xs : List X) → length xs ≡ n → ((j : ℕ) → j < n → slice_get xs j ≡ Some (f (a + j)))
    → xs ≡ map f (range_with_len a n)
all_filled f a zero [] len each = refl
all_filled f a zero (x ∷ xs) len each = absurd (omega (arith, len))
all_filled f a (suc n) [] len each = absurd (omega (arith, len))
all_filled f a (suc n) (x ∷ xs) len each =
    let here : a + 0 ≡ a = omega arith in
    let first : Some x ≡ Some (f (a + 0)) = each 0 (omega arith) in
    let next : (j : ℕ) → j < n → slice_get xs j ≡ Some (f ((a + 1) + j)) =
    λ j below. each (suc j) (omega (arith, below)) ∙ ap (λ k. Some (f k)) (omega arith) in
    let rest : xs ≡ map f (range_with_len (a + 1) n) = all_filled f (a + 1) n xs (omega (arith, len)) next in
    let head : x ≡ f a = let e : x ≡ f (a + 0) = cc in e ∙ ap f here in
    rw (head, rest) refl

-- a row with all of its places
pub row_filled : (f : ℕ → ℕ → Spot) (row k : ℕ) (spots : List Spot) → length spots ≡ 60 → 60 ≤ k
    → ((j : ℕ) → j < k → slice_get spots j ≡ Some (f row j))
    → spots ≡ row_of f row
unfolding row_of
row_filled f row k spots len most each =
    all_filled (f row) 0 60 spots len (λ j below. each j (omega (arith, below, most)) ∙ ap (λ i. Some (f row i)) (omega arith))

-- a picture with all of its rows
pub picture_filled : (f : ℕ → ℕ → Spot) (k : ℕ) (rows : List (List Spot)) → length rows ≡ 25 → 25 ≤ k
    → ((j : ℕ) → j < k → slice_get rows j ≡ Some (row_of f j))
    → record { rows = rows } ≡ picture_of f
unfolding picture_of
picture_filled f k rows len most each =
    let all : rows ≡ map (row_of f) (range_with_len 0 25) =
    all_filled (row_of f) 0 25 rows len (λ j below. each j (omega (arith, below, most)) ∙ ap (λ i. Some (row_of f i)) (omega arith)) in
    ap picture all
  where
    picture : List (List Spot) → Picture
    picture rows = record { rows = rows }
