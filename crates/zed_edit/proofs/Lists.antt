-- Lists.
use Rattle.std.proofs.Common.{◌≡◌, ℕ, ◌+◌, ◌<◌, List, [], ◌∷◌, ◌++◌, length, drop, get_or, suc, add-zero, drop-cons, refl, ap, sym, arith}
use Rattle.zed_types.specs.Table.{map_from}

-- a numbered list in two parts
pub map_from-append : {X Y : Type 0} (f : ℕ → X → Y) (i : ℕ) (xs ys : List X)
    → map_from f i (xs ++ ys) ≡ map_from f i xs ++ map_from f (i + length xs) ys
map_from-append f i [] ys = rw add-zero refl
map_from-append f i (x ∷ xs) ys =
    let sum : i + 1 + length xs ≡ i + length (x ∷ xs) = omega arith in
    ap (λ rest. f i x ∷ rest) (rw (← sum) (map_from-append f (i + 1) xs ys))

-- the members of a list, one before those that follow it
pub cons_at : {X : Type 0} (xs : List X) (k : ℕ) (d x : X) (rest : List X) → k < length xs → x ≡ get_or xs k d → rest ≡ drop (suc k) xs
    → x ∷ rest ≡ drop k xs
cons_at xs k d x rest l e r = rw (e, r) (sym (drop-cons xs k d l))
