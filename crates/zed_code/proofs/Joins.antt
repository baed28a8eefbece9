-- Lists of runs, joined.
use Rattle.std.proofs.Common.{◌≡◌, ◌≤◌, ◌<◌, ℕ, zero, suc, ◌+◌, Bool, true, false, cond, List, [], ◌∷◌, ◌++◌, length, take, drop, get_or, length-append, length-drop, append_assoc, append-nil, refl, ap, ◌∙◌, sym, arith}
use Rattle.std.proofs.lemmas.List.{length-map}
use Rattle.zed_types.specs.declared.stamp.Stamp.{Stamp}
use Rattle.zed_types.specs.Stamp.{before}
use Rattle.zed_code.specs.declared.run.Run.{Run}
use Rattle.zed_code.specs.declared.block.Block.{Block}
use Rattle.zed_code.specs.declared.block.Spot.{Spot}
use Rattle.zed_code.specs.Blocks.{lists, joined, list_at, before_spot, IsIn}
use Rattle.zed_code.specs.Runs.{lasts, sought, passed}
use Rattle.zed_code.specs.Kept.{NoneFrom}

pub joined-cut : (ls : List (List Run)) (i : ℕ) → joined ls ≡ joined (take i ls) ++ joined (drop i ls)
joined-cut ls zero = refl
joined-cut [] (suc i) = refl
joined-cut (rs ∷ ls) (suc i) = ap (λ xs. rs ++ xs) (joined-cut ls i) ∙ sym (append_assoc rs (joined (take i ls)) (joined (drop i ls)))

pub joined-drop : (ls : List (List Run)) (i : ℕ) → i < length ls → joined (drop i ls) ≡ list_at i ls ++ joined (drop (i + 1) ls)
joined-drop [] i l = absurd (omega (arith, l))
joined-drop (rs ∷ ls) zero l = refl
joined-drop (rs ∷ ls) (suc i) l = let e : suc i + 1 ≡ suc (i + 1) = omega arith in rw e (joined-drop ls i (omega (arith, l)))

pub joined-take : (ls : List (List Run)) (i : ℕ) → i < length ls → joined (take (i + 1) ls) ≡ joined (take i ls) ++ list_at i ls
joined-take [] i l = absurd (omega (arith, l))
joined-take (rs ∷ ls) zero l = append-nil rs
joined-take (rs ∷ ls) (suc i) l = let e : suc i + 1 ≡ suc (i + 1) = omega arith in rw e (ap (λ xs. rs ++ xs) (joined-take ls i (omega (arith, l))) ∙ sym (append_assoc rs (joined (take i ls)) (list_at i ls)))

pub joined-at : (ls : List (List Run)) (i : ℕ) → i < length ls
    → joined ls ≡ joined (take i ls) ++ (list_at i ls ++ joined (drop (i + 1) ls))
joined-at ls i l = joined-cut ls i ∙ ap (λ xs. joined (take i ls) ++ xs) (joined-drop ls i l)

pub drop-front : {X : Type 0} (xs ys : List X) (n : ℕ) → drop (length xs + n) (xs ++ ys) ≡ drop n ys
drop-front [] ys n = ap (λ k. drop k ys) (omega arith)
drop-front (x ∷ xs) ys n = let e : suc (length xs) + n ≡ suc (length xs + n) = omega arith in rw e (drop-front xs ys n)

pub drop-within : {X : Type 0} (xs ys : List X) (n : ℕ) → n ≤ length xs → drop n (xs ++ ys) ≡ drop n xs ++ ys
drop-within xs ys zero l = refl
drop-within [] ys (suc n) l = absurd (omega (arith, l))
drop-within (x ∷ xs) ys (suc n) l = drop-within xs ys n (omega (arith, l))

pub take-front : {X : Type 0} (xs ys : List X) (n : ℕ) → take (length xs + n) (xs ++ ys) ≡ xs ++ take n ys
take-front [] ys n = ap (λ k. take k ys) (omega arith)
take-front (x ∷ xs) ys n = let e : suc (length xs) + n ≡ suc (length xs + n) = omega arith in rw e (ap (λ zs. x ∷ zs) (take-front xs ys n))

pub take-within : {X : Type 0} (xs ys : List X) (n : ℕ) → n ≤ length xs → take n (xs ++ ys) ≡ take n xs
take-within xs ys zero l = refl
take-within [] ys (suc n) l = absurd (omega (arith, l))
take-within (x ∷ xs) ys (suc n) l = ap (λ zs. x ∷ zs) (take-within xs ys n (omega (arith, l)))

-- the runs from a place on
pub drop-spot : (at : Spot) (ls : List (List Run)) → IsIn at 0 ls
    → drop (before_spot at ls) (joined ls) ≡ drop at.place (list_at at.block ls) ++ joined (drop (at.block + 1) ls)
drop-spot at ls h =
    ap (λ xs. drop (before_spot at ls) xs) (joined-at ls at.block h.block)
    ∙ drop-front (joined (take at.block ls)) (list_at at.block ls ++ joined (drop (at.block + 1) ls)) at.place
    ∙ drop-within (list_at at.block ls) (joined (drop (at.block + 1) ls)) at.place (omega (arith, h.place))

pub take-spot : (at : Spot) (ls : List (List Run)) → IsIn at 0 ls
    → take (before_spot at ls) (joined ls) ≡ joined (take at.block ls) ++ take at.place (list_at at.block ls)
take-spot at ls h =
    ap (λ xs. take (before_spot at ls) xs) (joined-at ls at.block h.block)
    ∙ take-front (joined (take at.block ls)) (list_at at.block ls ++ joined (drop (at.block + 1) ls)) at.place
    ∙ ap (λ xs. joined (take at.block ls) ++ xs) (take-within (list_at at.block ls) (joined (drop (at.block + 1) ls)) at.place (omega (arith, h.place)))

-- how many runs there are
pub length-at : (ls : List (List Run)) (i : ℕ) → i < length ls
    → length (joined ls) ≡ length (joined (take i ls)) + (length (list_at i ls) + length (joined (drop (i + 1) ls)))
length-at ls i l = ap length (joined-at ls i l) ∙ omega (arith, length-append (joined (take i ls)) (list_at i ls ++ joined (drop (i + 1) ls)), length-append (list_at i ls) (joined (drop (i + 1) ls)))

pub length-next : (ls : List (List Run)) (i : ℕ) → i < length ls
    → length (joined (take (i + 1) ls)) ≡ length (joined (take i ls)) + length (list_at i ls)
length-next ls i l = ap length (joined-take ls i l) ∙ length-append (joined (take i ls)) (list_at i ls)

-- the runs of a block that is read
pub list_at-is : (bs : List Block) (i : ℕ) (b : Block) → i < length bs → b ≡ get_or bs i b → list_at i (lists bs) ≡ b.runs.items
list_at-is [] i b l e = absurd (omega (arith, l))
list_at-is (q ∷ bs) zero b l e = ap (λ (x : Block). x.runs.items) (sym e)
list_at-is (q ∷ bs) (suc i) b l e = list_at-is bs i b (omega (arith, l)) e

pub list_at-get : (bs : List Block) (i : ℕ) (b : Block) → i < length bs → list_at i (lists bs) ≡ (get_or bs i b).runs.items
list_at-get [] i b l = absurd (omega (arith, l))
list_at-get (q ∷ bs) zero b l = refl
list_at-get (q ∷ bs) (suc i) b l = list_at-get bs i b (omega (arith, l))

pub length-lists : (bs : List Block) → length (lists bs) ≡ length bs
length-lists bs = length-map bs (λ b. b.runs.items)

pub sought-from : (s : Stamp) (n : ℕ) (rs qs : List Run) → NoneFrom s n rs → sought s n (rs ++ qs) ≡ length rs + sought s n qs
sought-from s n [] qs none = omega arith
sought-from s n (r ∷ rs) qs none = rw none.0 (omega (arith, sought-from s n rs qs none.1))

sought-pass : (s : Stamp) (n : ℕ) (rs qs : List Run) → length rs ≤ sought s n rs → sought s n (rs ++ qs) ≡ length rs + sought s n qs
sought-pass s n [] qs l = omega arith
sought-pass s n (r ∷ rs) qs l = go (lasts s n r) (λ k. sought-pass s n rs qs k) l
  where
    go : (b : Bool) → (length rs ≤ sought s n rs → sought s n (rs ++ qs) ≡ length rs + sought s n qs)
        → suc (length rs) ≤ cond b 0 (suc (sought s n rs))
        → cond b 0 (suc (sought s n (rs ++ qs))) ≡ suc (length rs) + sought s n qs
    go true more k = absurd (omega (arith, k))
    go false more k = let m : length rs ≤ sought s n rs = omega (arith, k) in omega (arith, more m)

sought-in : (s : Stamp) (n : ℕ) (rs qs : List Run) → sought s n rs < length rs → sought s n (rs ++ qs) ≡ sought s n rs
sought-in s n [] qs l = absurd (omega (arith, l))
sought-in s n (r ∷ rs) qs l = go (lasts s n r) (λ k. sought-in s n rs qs k) l
  where
    go : (b : Bool) → (sought s n rs < length rs → sought s n (rs ++ qs) ≡ sought s n rs) → cond b 0 (suc (sought s n rs)) < suc (length rs)
        → cond b 0 (suc (sought s n (rs ++ qs))) ≡ cond b 0 (suc (sought s n rs))
    go true more k = refl
    go false more k = ap suc (more (omega (arith, k)))

-- a search in one block, of which none before it has what is sought: it ends there, or behind it
module _ (s : Stamp) (n : ℕ) (ls : List (List Run)) (b k : ℕ) (rs : List Run) (l : b < length ls) (read : rs ≡ list_at b ls) (told : k ≡ sought s n rs) (rest : length (joined (take b ls)) + sought s n (joined (drop b ls)) ≡ sought s n (joined ls)) where
  pub sought-here : k < length rs → length (joined (take b ls)) + k ≡ sought s n (joined ls)
  sought-here m =
      let p = told ∙ ap (sought s n) read in
      let e =
      ap (sought s n) (joined-drop ls b l)
      ∙ sought-in s n (list_at b ls) (joined (drop (b + 1) ls)) (omega (arith, m, p, ap length read)) in
      omega (arith, e, p, rest)

  pub sought-behind : length rs ≤ k → length (joined (take (b + 1) ls)) + sought s n (joined (drop (b + 1) ls)) ≡ sought s n (joined ls)
  sought-behind m =
      let p = told ∙ ap (sought s n) read in
      let e =
      ap (sought s n) (joined-drop ls b l)
      ∙ sought-pass s n (list_at b ls) (joined (drop (b + 1) ls)) (omega (arith, m, p, ap length read)) in
      omega (arith, e, rest, length-next ls b l)

pub none-sought : (s : Stamp) (n : ℕ) (rs : List Run) → NoneFrom s n (take (sought s n rs) rs)
none-sought s n [] = tt
none-sought s n (r ∷ rs) = go (lasts s n r) refl (none-sought s n rs)
  where
    go : (b : Bool) → lasts s n r ≡ b → NoneFrom s n (take (sought s n rs) rs)
        → NoneFrom s n (take (cond b 0 (suc (sought s n rs))) (r ∷ rs))
    go true e more = tt
    go false e more = (e, more)

pub passed-pass : (s : Stamp) (rs qs : List Run) → length rs ≤ passed s rs → passed s (rs ++ qs) ≡ length rs + passed s qs
passed-pass s [] qs l = omega arith
passed-pass s (r ∷ rs) qs l = go (before s r.stamp) (λ k. passed-pass s rs qs k) l
  where
    go : (b : Bool) → (length rs ≤ passed s rs → passed s (rs ++ qs) ≡ length rs + passed s qs)
        → suc (length rs) ≤ cond b (suc (passed s rs)) 0
        → cond b (suc (passed s (rs ++ qs))) 0 ≡ suc (length rs) + passed s qs
    go false more k = absurd (omega (arith, k))
    go true more k = let m : length rs ≤ passed s rs = omega (arith, k) in omega (arith, more m)

pub passed-in : (s : Stamp) (rs qs : List Run) → passed s rs < length rs → passed s (rs ++ qs) ≡ passed s rs
passed-in s [] qs l = absurd (omega (arith, l))
passed-in s (r ∷ rs) qs l = go (before s r.stamp) (λ k. passed-in s rs qs k) l
  where
    go : (b : Bool) → (passed s rs < length rs → passed s (rs ++ qs) ≡ passed s rs) → cond b (suc (passed s rs)) 0 < suc (length rs)
        → cond b (suc (passed s (rs ++ qs))) 0 ≡ cond b (suc (passed s rs)) 0
    go false more k = refl
    go true more k = ap suc (more (omega (arith, k)))

pub drop-block : (ls : List (List Run)) (i : ℕ) → drop (length (joined (take i ls)) + 0) (joined ls) ≡ joined (drop i ls)
drop-block ls i =
    ap (λ xs. drop (length (joined (take i ls)) + 0) xs) (joined-cut ls i) ∙ drop-front (joined (take i ls)) (joined (drop i ls)) 0

pub drop-none : (ls : List (List Run)) (i : ℕ) → length ls ≤ i → joined (drop i ls) ≡ []
drop-none [] zero l = refl
drop-none [] (suc i) l = refl
drop-none (rs ∷ ls) zero l = absurd (omega (arith, l))
drop-none (rs ∷ ls) (suc i) l = drop-none ls i (omega (arith, l))

-- the place behind the runs of later edits, as one block tells it
module _ (s : Stamp) (at : Spot) (ls : List (List Run)) (k : ℕ) (h : IsIn at 0 ls) (e : k ≡ at.place + passed s (drop at.place (list_at at.block ls))) where
  from : drop (before_spot at ls) (joined ls) ≡ drop at.place (list_at at.block ls) ++ joined (drop (at.block + 1) ls)
  from = drop-spot at ls h

  pub pass-within : k < length (list_at at.block ls)
      → length (joined (take at.block ls)) + k ≡ before_spot at ls + passed s (drop (before_spot at ls) (joined ls))
  pass-within l =
      let n = length-drop at.place (list_at at.block ls) in
      let m : passed s (drop at.place (list_at at.block ls)) < length (drop at.place (list_at at.block ls)) = omega (arith, n, l, e) in
      let p : passed s (drop (before_spot at ls) (joined ls)) ≡ passed s (drop at.place (list_at at.block ls)) =
      ap (passed s) from ∙ passed-in s (drop at.place (list_at at.block ls)) (joined (drop (at.block + 1) ls)) m in
      omega (arith, p, e)

  pub pass-beyond : length (list_at at.block ls) ≤ k
      → length (joined (take (at.block + 1) ls)) + 0 + passed s (drop (length (joined (take (at.block + 1) ls)) + 0) (joined ls))
      ≡ before_spot at ls + passed s (drop (before_spot at ls) (joined ls))
  pass-beyond l =
      let n = length-drop at.place (list_at at.block ls) in
      let m : length (drop at.place (list_at at.block ls)) ≤ passed s (drop at.place (list_at at.block ls)) = omega (arith, n, l, e) in
      let p : passed s (drop (before_spot at ls) (joined ls)) ≡ length (drop at.place (list_at at.block ls)) + passed s (joined (drop (at.block + 1) ls)) = ap (passed s) from ∙ passed-pass s (drop at.place (list_at at.block ls)) (joined (drop (at.block + 1) ls)) m in
      let q : passed s (drop (length (joined (take (at.block + 1) ls)) + 0) (joined ls)) ≡ passed s (joined (drop (at.block + 1) ls)) =
      ap (passed s) (drop-block ls (at.block + 1)) in
      omega (arith, p, q, n, h.place, length-next ls at.block h.block)

  pub pass-last : length ls ≤ at.block + 1
      → length (joined (take at.block ls)) + k ≡ before_spot at ls + passed s (drop (before_spot at ls) (joined ls))
  pass-last l =
      let p : passed s (drop (before_spot at ls) (joined ls)) ≡ passed s (drop at.place (list_at at.block ls)) = ap (passed s) (from ∙ ap (λ xs. drop at.place (list_at at.block ls) ++ xs) (drop-none ls (at.block + 1) l) ∙ append-nil (drop at.place (list_at at.block ls))) in
      omega (arith, p, e)

pub length-last : (ls : List (List Run)) (i : ℕ) → i < length ls → length ls ≤ i + 1
    → length (joined ls) ≡ length (joined (take i ls)) + length (list_at i ls)
length-last ls i l m = let n = ap length (drop-none ls (i + 1) m) in omega (arith, length-at ls i l, n)
