-- Looking for a member of a list in parts, and counting those that are alive.
use Rattle.std.proofs.Common.{◌≡◌, ℕ, ◌+◌, ◌<◌, Bool, true, false, List, [], ◌∷◌, length, filter, count_by, cond, ap, ◌&&◌, Some, refl, drop, get_or, sym, arith, suc, zero, not, ◌-◌, ◌∙◌, slice_get, add-one, drop-cons}
use Rattle.std.proofs.lemmas.List.{length-map}
use Rattle.std.proofs.lemmas.List.Sums.{length-filter, sum_by-cons}
use Rattle.zed_types.specs.declared.text.TextByte.{TextByte}
use Rattle.zed_types.specs.Text.{alive_bytes}
use Rattle.zed_edit.specs.declared.plain.Board.{Board}
use Rattle.zed_edit.specs.declared.plain.Stat.{Stat}
use Rattle.zed_edit.specs.Numbers.{comes_before, boards_before}

pub count_alive : (xs : List TextByte) → count_by (λ x. x.alive) xs ≡ length (alive_bytes xs)
count_alive xs = sym (length-map (filter (λ x. x.alive) xs) (λ (x : TextByte). x.byte) ∙ length-filter (λ (x : TextByte). x.alive) xs)

count-both : {X : Type 0} (p q : X → Bool) (xs : List X) → count_by (λ x. p x && q x) xs ≡ count_by q (filter p xs)
count-both p q [] = refl
count-both p q (x ∷ xs) = sum_by-cons (λ y. cond (p y && q y) 1 0) x xs ∙ go (p x) (count-both p q xs)
  where
    go : (b : Bool) → count_by (λ y. p y && q y) xs ≡ count_by q (filter p xs)
        → cond (b && q x) 1 0 + count_by (λ y. p y && q y) xs ≡ count_by q (cond b (x ∷ filter p xs) (filter p xs))
    go true e = ap (λ n. cond (q x) 1 0 + n) e ∙ sym (sum_by-cons (λ y. cond (q y) 1 0) x (filter p xs))
    go false e = let z : 0 + count_by (λ y. p y && q y) xs ≡ count_by (λ y. p y && q y) xs = omega arith in z ∙ e

pub count_there : (bs : List Board) (one : Board)
    → count_by (λ b. not b.removed && comes_before b one) bs ≡ boards_before (filter (λ b. not b.removed) bs) one
count_there bs one = count-both (λ b. not b.removed) (λ b. comes_before b one) bs

module _ {X : Type 0} (p : X → Bool) (xs : List X) (i : ℕ) (d : X) (l : i < length xs) where
  nth-skip : (n : ℕ) → p (get_or xs i d) ≡ false → slice_get (filter p (drop i xs)) n ≡ slice_get (filter p (drop (i + 1) xs)) n
  nth-skip n h = rw (drop-cons xs i d l, add-one) (rw h refl)

  nth-here : p (get_or xs i d) ≡ true → slice_get (filter p (drop i xs)) 0 ≡ Some (get_or xs i d)
  nth-here h = rw (drop-cons xs i d l) (rw h refl)

  nth-further : (n : ℕ) → p (get_or xs i d) ≡ true → slice_get (filter p (drop i xs)) (suc n) ≡ slice_get (filter p (drop (i + 1) xs)) n
  nth-further n h = rw (drop-cons xs i d l, add-one) (rw h refl)

abbrev pub alive_stats : List Stat → List Stat
alive_stats ss = filter (λ s. not s.removed) ss

-- the number of a stat among those that are not removed, one stat further
pub stat_removed : (ss : List Stat) (i : ℕ) (d : Stat) (n : ℕ) → i < length ss → (get_or ss i d).removed ≡ true
    → slice_get (alive_stats (drop i ss)) n ≡ slice_get (alive_stats (drop (i + 1) ss)) n
stat_removed ss i d n l h = nth-skip (λ (s : Stat). not s.removed) ss i d l n (rw h refl)

pub stat_here : (ss : List Stat) (i : ℕ) (d : Stat) → i < length ss → (get_or ss i d).removed ≡ false
    → slice_get (alive_stats (drop i ss)) 0 ≡ Some (get_or ss i d)
stat_here ss i d l h = nth-here (λ (s : Stat). not s.removed) ss i d l (rw h refl)

pub stat_further : (ss : List Stat) (i : ℕ) (d : Stat) (n : ℕ) → i < length ss → (get_or ss i d).removed ≡ false → 0 < n
    → slice_get (alive_stats (drop i ss)) n ≡ slice_get (alive_stats (drop (i + 1) ss)) (n - 1)
stat_further ss i d zero l h m = absurd (omega arith)
stat_further ss i d (suc n) l h m = let e : suc n - 1 ≡ n = omega arith in rw e (nth-further (λ (s : Stat). not s.removed) ss i d l n (rw h refl))
