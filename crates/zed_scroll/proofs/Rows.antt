-- Rows that are written place by place.
use Rattle.std.proofs.Common.{◌≡◌, ◌∙◌, ◌+◌, ◌++◌, ℕ, List, [], ◌∷◌, ap, append_assoc, arith, map, refl, sym}
use Rattle.std.specs.List.{flat_map, range_with_len}
use Rattle.std.proofs.lemmas.List.{flat_map_more}
use Rattle.std.proofs.lemmas.List.FromFn.{map-range_with_len_more}

-- one place more
pub place_more : {X : Type 0} (f : ℕ → X) (k : ℕ) (x : X) (before done after : List X) → x ≡ f k → done ≡ before ++ map f (range_with_len 0 k)
    → after ≡ done ++ x ∷ [] → after ≡ before ++ map f (range_with_len 0 (k + 1))
place_more f k x before done after is e g =
    g ∙ ap (λ t. t ++ x ∷ []) e ∙ ap (λ y. (before ++ map f (range_with_len 0 k)) ++ y ∷ []) is
    ∙ append_assoc before (map f (range_with_len 0 k)) (f k ∷ []) ∙ ap (λ t. before ++ t) (sym (map-range_with_len_more f 0 k k (omega arith)))

range_more : (n : ℕ) → map (λ i. i) (range_with_len 0 (n + 1)) ≡ map (λ i. i) (range_with_len 0 n) ++ n ∷ []
range_more n = map-range_with_len_more (λ i. i) 0 n n (omega arith)

same : (xs : List ℕ) → map (λ i. i) xs ≡ xs
same [] = refl
same (x ∷ xs) = ap (λ t. x ∷ t) (same xs)

-- one row more
pub row_more : (f : ℕ → List ℕ) (k : ℕ) (before done after : List ℕ) → done ≡ before ++ flat_map f (range_with_len 0 k) → after ≡ done ++ f k
    → after ≡ before ++ flat_map f (range_with_len 0 (k + 1))
row_more f k before done after e g =
    let next : range_with_len 0 (k + 1) ≡ range_with_len 0 k ++ k ∷ [] =
    sym (same (range_with_len 0 (k + 1))) ∙ range_more k ∙ ap (λ t. t ++ k ∷ []) (same (range_with_len 0 k)) in
    g ∙ ap (λ t. t ++ f k) e ∙ flat_map_more f before (range_with_len 0 k) k ∙ ap (λ r. before ++ flat_map f r) (sym next)
