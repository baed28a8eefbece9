-- The last lines of a list.
use Rattle.std.proofs.Common.{◌≡◌, ◌∙◌, ◌≤◌, ◌<◌, ◌++◌, ◌+◌, ◌-◌, ℕ, zero, suc, List, [], ◌∷◌, length, drop, get_or, sym, ap, arith, append_assoc, length-append, length-drop}
use Rattle.std.proofs.Math.Seq.{drop-cons, drop-nil}
use Rattle.std.proofs.lemmas.List.{drop-append-le}
use Rattle.zed_play.specs.Game.{kept}

drop_twice : {X : Type 0} (k i n : ℕ) (xs : List X) → n ≡ k + i → drop i (drop k xs) ≡ drop n xs
drop_twice zero i n xs e = let same : i ≡ n = omega arith in ap (λ m. drop m xs) same
drop_twice (suc k) i n [] e = drop-nil i ∙ sym (drop-nil n)
drop_twice (suc k) i zero (x ∷ xs) e = absurd (omega arith)
drop_twice (suc k) i (suc n) (x ∷ xs) e = drop_twice k i n xs (omega arith)

kept_of_drop : (k : ℕ) (xs : List (List ℕ)) → k ≤ length xs - 64 → kept (drop k xs) ≡ kept xs
kept_of_drop k xs few =
    let left : length (drop k xs) ≡ length xs - k = length-drop k xs in
    drop_twice k (length (drop k xs) - 64) (length xs - 64) xs (rw left (omega arith))

-- lines that come after those that were kept
pub kept_of_kept : (xs ys : List (List ℕ)) → kept (kept xs ++ ys) ≡ kept (xs ++ ys)
kept_of_kept xs ys =
    let all : length (xs ++ ys) ≡ length xs + length ys = length-append xs ys in
    let here : drop (length xs - 64) (xs ++ ys) ≡ kept xs ++ ys = drop-append-le (length xs - 64) xs ys (omega arith) in
    ap kept (sym here) ∙ kept_of_drop (length xs - 64) (xs ++ ys) (rw all (omega arith))

-- one line at a time
pub kept_next : (xs : List (List ℕ)) (y : List ℕ) (ys : List (List ℕ)) → kept (kept (xs ++ y ∷ []) ++ ys) ≡ kept (xs ++ y ∷ ys)
kept_next xs y ys = kept_of_kept (xs ++ y ∷ []) ys ∙ ap kept (append_assoc xs (y ∷ []) ys)

-- a line of a list comes after those that were kept
pub kept_on : (m s ls r : List (List ℕ)) (x : List ℕ) (i : ℕ) → m ≡ kept (s ++ x ∷ []) → x ≡ get_or ls i x → i < length ls
    → kept (s ++ drop i ls) ≡ r
    → kept (m ++ drop (i + 1) ls) ≡ r
kept_on m s ls r x i is there within before =
    let after : suc i ≡ i + 1 = omega arith in
    let first : drop i ls ≡ x ∷ drop (i + 1) ls =
    drop-cons ls i x within ∙ ap (λ y. y ∷ drop (suc i) ls) (sym there) ∙ ap (λ n. x ∷ drop n ls) after in
    ap (λ k. kept (k ++ drop (i + 1) ls)) is ∙ kept_next s x (drop (i + 1) ls) ∙ ap (λ d. kept (s ++ d)) (sym first) ∙ before
