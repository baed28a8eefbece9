-- Members of a list by an order: each has as many before it as stand before it where the list rises.
use Rattle.std.proofs.Common.{◌≡◌, ◌∙◌, ℕ, zero, suc, ◌+◌, ◌<◌, ◌≤◌, Bool, true, false, cond, eqb, eqb-true, eq-eqb, lt-ltb, le-ltb, List, [], ◌∷◌, length, map, filter_map, find, position, count_by, IsPermutation, Option, Some, None, option_map, slice_get, refl, sym, ap, subst, true≢false, arith}
use Rattle.std.specs.List.{AllByRecursion, cons_option, range_with_len, position_or_len}
use Rattle.std.proofs.lemmas.List.Folds.{find_at}
use Rattle.std.proofs.lemmas.List.Sums.{sum_by-cons}
use Rattle.std.proofs.lemmas.List.Sorted.{sum_by-IsPermutation, All-permutation, IsPermutation-sym}
use Rattle.std.proofs.lemmas.List.Elements.{All-from_recursion, recursion_from_All}

pub same_some : {X : Type 0} (a x y : X) → Some x ≡ Some y → x ≡ y
same_some {X} a x y e = ap (λ o. or_that o) e
  where
    or_that : Option X → X
    or_that None = a
    or_that (Some z) = z

pub none_some : {X : Type 0} (x : X) → None ≡ Some x → ⊥
none_some {X} x e = absurd (true≢false (sym (ap (λ o. there o) e)))
  where
    there : Option X → Bool
    there None = false
    there (Some z) = true

-- each member that passes counts
pub count-yes : {X : Type 0} (q : X → Bool) (x : X) (xs : List X) → q x ≡ true → count_by q (x ∷ xs) ≡ suc (count_by q xs)
count-yes q x xs h = let e : 1 + count_by q xs ≡ suc (count_by q xs) = omega arith in sum_by-cons (λ y. cond (q y) 1 0) x xs ∙ ap (λ b. cond b 1 0 + count_by q xs) h ∙ e

count-no : {X : Type 0} (q : X → Bool) (x : X) (xs : List X) → q x ≡ false → count_by q (x ∷ xs) ≡ count_by q xs
count-no q x xs h = let e : 0 + count_by q xs ≡ count_by q xs = omega arith in sum_by-cons (λ y. cond (q y) 1 0) x xs ∙ ap (λ b. cond b 1 0 + count_by q xs) h ∙ e

pub count-cons : {X : Type 0} (q : X → Bool) (x : X) (xs : List X) → count_by q (x ∷ xs) ≡ cond (q x) 1 0 + count_by q xs
count-cons q x xs = sum_by-cons (λ y. cond (q y) 1 0) x xs

pub count-permutation : {X : Type 0} (q : X → Bool) (xs ys : List X) → IsPermutation xs ys → count_by q ys ≡ count_by q xs
count-permutation q xs ys h = sum_by-IsPermutation (λ y. cond (q y) 1 0) xs ys h

pub count-mapped : {X K : Type 0} (key : X → K) (q : K → Bool) (xs : List X) → count_by q (map key xs) ≡ count_by (λ x. q (key x)) xs
count-mapped key q [] = refl
count-mapped key q (x ∷ xs) =
    count-cons q (key x) (map key xs) ∙ ap (λ n. cond (q (key x)) 1 0 + n) (count-mapped key q xs) ∙ sym (count-cons (λ y. q (key y)) x xs)

-- what is found is the image of what is found
pub find-mapped : {X K : Type 0} (key : X → K) (q : K → Bool) (xs : List X)
    → find q (map key xs) ≡ option_map key (find (λ x. q (key x)) xs)
find-mapped key q [] = refl
find-mapped key q (x ∷ xs) = go (q (key x)) (find-mapped key q xs)
  where
    go : (b : Bool) → find q (map key xs) ≡ option_map key (find (λ y. q (key y)) xs)
        → cond b (Some (key x)) (find q (map key xs)) ≡ option_map key (cond b (Some x) (find (λ y. q (key y)) xs))
    go true e = refl
    go false e = e

-- what is found passes, and what holds of all holds of it
pub found-is : {X : Type 0} (q : X → Bool) (P : X → Type 0) (xs : List X) (k : X) → AllByRecursion P xs → find q xs ≡ Some k
    → (q k ≡ true) × P k
found-is q P [] k h e = absurd (none_some k e)
found-is q P (x ∷ xs) k h e = go (q x) refl e (found-is q P xs k h.1)
  where
    go : (b : Bool) → q x ≡ b → cond b (Some x) (find q xs) ≡ Some k → (find q xs ≡ Some k → (q k ≡ true) × P k) → (q k ≡ true) × P k
    go true t f more = let s = same_some x x k f in (ap q (sym s) ∙ t, subst P s h.0)
    go false t f more = more f

-- where none is found, none counts
none-count : {X : Type 0} (q : X → Bool) (xs : List X) → find q xs ≡ None → count_by q xs ≡ 0
none-count q [] e = refl
none-count q (x ∷ xs) e = go (q x) refl e (none-count q xs)
  where
    go : (b : Bool) → q x ≡ b → cond b (Some x) (find q xs) ≡ None → (find q xs ≡ None → count_by q xs ≡ 0) → count_by q (x ∷ xs) ≡ 0
    go true t f more = absurd (none_some x (sym f))
    go false t f more = count-no q x xs t ∙ more f

-- a member that passes counts
some-count : {X : Type 0} (q : X → Bool) (xs : List X) (n : ℕ) (v : X) → slice_get xs n ≡ Some v → q v ≡ true → 1 ≤ count_by q xs
some-count q [] n v e t = absurd (none_some v e)
some-count q (x ∷ xs) zero v e t = let a = count-yes q x xs (ap q (same_some v x v e) ∙ t) in omega (arith, a)
some-count q (x ∷ xs) (suc n) v e t = let a = count-cons q x xs in let b = some-count q xs n v e t in omega (arith, a, b)

-- two members that pass where one at most does are one
one-place : {X : Type 0} (q : X → Bool) (xs : List X) (i j : ℕ) (v w : X) → count_by q xs ≤ 1 → slice_get xs i ≡ Some v
    → slice_get xs j ≡ Some w → q v ≡ true → q w ≡ true
    → v ≡ w
one-place q [] i j v w few a b s t = absurd (none_some v a)
one-place q (x ∷ xs) zero zero v w few a b s t = sym (same_some v x v a) ∙ same_some w x w b
one-place q (x ∷ xs) zero (suc j) v w few a b s t = let c = count-yes q x xs (ap q (same_some v x v a) ∙ s) in let d = some-count q xs j w b t in absurd (omega (arith, c, d, few))
one-place q (x ∷ xs) (suc i) zero v w few a b s t = let c = count-yes q x xs (ap q (same_some w x w b) ∙ t) in let d = some-count q xs i v a s in absurd (omega (arith, c, d, few))
one-place q (x ∷ xs) (suc i) (suc j) v w few a b s t = let c = count-cons q x xs in one-place q xs i j v w (omega (arith, c, few)) a b s t

pub all-at : {X : Type 0} (P : X → Type 0) (xs : List X) (n : ℕ) (v : X) → AllByRecursion P xs → slice_get xs n ≡ Some v → P v
all-at P [] n v h e = absurd (none_some v e)
all-at P (x ∷ xs) zero v h e = subst P (same_some v x v e) h.0
all-at P (x ∷ xs) (suc n) v h e = all-at P xs n v h.1 e

-- the values of f from a on, where these are the members of a list
pub walk : {X K : Type 0} (f : ℕ → Option X) (key : X → K) (ks : List K) (a : ℕ) → ((n : ℕ) → option_map key (f (a + n)) ≡ slice_get ks n)
    → map key (filter_map f (range_with_len a (length ks))) ≡ ks
walk f key [] a e = refl
walk {X} f key (k ∷ ks) a e = go (f a) (ap (λ n. option_map key (f n)) (omega arith) ∙ e 0) (walk f key ks (a + 1) (λ n. ap (λ m. option_map key (f m)) (omega arith) ∙ e (suc n)))
  where
    go : (o : Option X) → option_map key o ≡ Some k → map key (filter_map f (range_with_len (a + 1) (length ks))) ≡ ks
        → map key (cons_option o (filter_map f (range_with_len (a + 1) (length ks)))) ≡ k ∷ ks
    go None h r = absurd (none_some k h)
    go (Some x) h r =
        ap (λ y. y ∷ map key (filter_map f (range_with_len (a + 1) (length ks)))) (same_some k (key x) k h) ∙ ap (λ ys. k ∷ ys) r

-- each comes before those behind it
abbrev pub Rises : {K : Type 0} → (K → K → Bool) → List K → Type 0
Rises lt [] = Unit {0}
Rises lt (x ∷ xs) = AllByRecursion (λ y. lt x y ≡ true) xs × Rises lt xs

-- how many come before one
abbrev pub before : {K : Type 0} → (K → K → Bool) → List K → K → ℕ
before lt ks k = count_by (λ j. lt j k) ks

module _ {K : Type 0} (lt : K → K → Bool) (once : (x y : K) → lt x y ≡ true → lt y x ≡ false) where
  itself : (x : K) → lt x x ≡ false
  itself x = go (lt x x) refl
    where
      go : (b : Bool) → lt x x ≡ b → b ≡ false
      go true h = sym h ∙ once x x h
      go false h = refl

  none-before : (x : K) (zs : List K) → AllByRecursion (λ y. lt x y ≡ true) zs → before lt zs x ≡ 0
  none-before x [] h = refl
  none-before x (z ∷ zs) h = count-no (λ j. lt j x) z zs (once x z h.0) ∙ none-before x zs h.1

  first : (x : K) (zs : List K) → AllByRecursion (λ y. lt x y ≡ true) zs → before lt (x ∷ zs) x ≡ 0
  first x zs h = count-no (λ j. lt j x) x zs (itself x) ∙ none-before x zs h

  -- member n of a rising list has n before it
  pub has-place : (ks : List K) (n : ℕ) (v : K) → Rises lt ks → slice_get ks n ≡ Some v → before lt ks v ≡ n
  has-place [] n v r h = absurd (none_some v h)
  has-place (x ∷ xs) zero v r h = subst (λ w. before lt (x ∷ xs) w ≡ 0) (same_some v x v h) (first x xs r.0)
  has-place (x ∷ xs) (suc n) v r h =
      count-yes (λ j. lt j v) x xs (all-at (λ y. lt x y ≡ true) xs n v r.0 h) ∙ ap suc (has-place xs n v r.1 h)

  later : (x : K) (xs zs : List K) → AllByRecursion (λ y. lt x y ≡ true) zs
      → AllByRecursion (λ y. slice_get xs (before lt xs y) ≡ Some y) zs
      → AllByRecursion (λ y. slice_get (x ∷ xs) (before lt (x ∷ xs) y) ≡ Some y) zs
  later x xs [] h k = tt
  later x xs (z ∷ zs) h k = (ap (slice_get (x ∷ xs)) (count-yes (λ j. lt j z) x xs h.0) ∙ k.0, later x xs zs h.1 k.1)

  -- and each stands where its number says
  pub at-place : (ks : List K) → Rises lt ks → AllByRecursion (λ k. slice_get ks (before lt ks k) ≡ Some k) ks
  at-place [] r = tt
  at-place (x ∷ xs) r = (ap (slice_get (x ∷ xs)) (first x xs r.0), later x xs xs r.0 (at-place xs r.1))

  module _ (ms ks : List K) (same : IsPermutation ms ks) (r : Rises lt ks) where
    pub in-place : AllByRecursion (λ k. slice_get ks (before lt ks k) ≡ Some k) ms
    in-place =
        let P : K → Type 0 = λ k. slice_get ks (before lt ks k) ≡ Some k in
        recursion_from_All P ms (All-permutation P ks ms (IsPermutation-sym ms ks same) (All-from_recursion P ks (at-place ks r)))

    pub as-many : (k : K) → before lt ks k ≡ before lt ms k
    as-many k = count-permutation (λ j. lt j k) ms ks same

    -- the one that has n before it is member n of the rising list
    pub numbered : (n : ℕ) → find (λ k. eqb (before lt ms k) n) ms ≡ slice_get ks n
    numbered n = ap (λ (f : K → ℕ). find (λ k. eqb (f k) n) ms) (λ i k. sym (as-many k) i) ∙ go (find q ms) refl (slice_get ks n) refl
      where
        q : K → Bool
        q k = eqb (before lt ks k) n

        go : (o : Option K) → find q ms ≡ o → (p : Option K) → slice_get ks n ≡ p → find q ms ≡ slice_get ks n
        go (Some k) e p f =
            let is = found-is q (λ k. slice_get ks (before lt ks k) ≡ Some k) ms k in-place e in
            e ∙ sym (ap (slice_get ks) (sym (eqb-true (before lt ks k) n is.0)) ∙ is.1)
        go None e None f = e ∙ sym f
        go None e (Some v) f =
            let a = none-count q ms e in
            let b = some-count q ks n v f (eq-eqb (before lt ks v) n (has-place ks n v r f)) in
            let c = count-permutation q ms ks same in
            absurd (omega (arith, a, b, c))

    -- one that is alone in passing is found in any order
    pub found-again : (q : K → Bool) → count_by q ms ≤ 1 → find q ms ≡ find q ks
    found-again q few = go (find q ms) refl (find q ks) refl
      where
        c : count_by q ks ≡ count_by q ms
        c = count-permutation q ms ks same

        go : (o : Option K) → find q ms ≡ o → (p : Option K) → find q ks ≡ p → find q ms ≡ find q ks
        go None e None f = e ∙ sym f
        go (Some v) e None f =
            let is = found-is q (λ k. slice_get ks (before lt ks k) ≡ Some k) ms v in-place e in
            let a = none-count q ks f in
            let b = some-count q ks (before lt ks v) v is.1 is.0 in
            absurd (omega (arith, a, b))
        go None e (Some w) f =
            let is = found-is q (λ k. slice_get ks (before lt ks k) ≡ Some k) ks w (at-place ks r) f in
            let a = none-count q ms e in
            let b = some-count q ks (before lt ks w) w is.1 is.0 in
            absurd (omega (arith, a, b, c))
        go (Some v) e (Some w) f =
            let is = found-is q (λ k. slice_get ks (before lt ks k) ≡ Some k) ms v in-place e in
            let it = found-is q (λ k. slice_get ks (before lt ks k) ≡ Some k) ks w (at-place ks r) f in
            e ∙ ap Some (one-place q ks (before lt ks v) (before lt ks w) v w (omega (arith, c, few)) is.1 it.1 is.0 it.0) ∙ sym f

pub some-below : {X : Type 0} (xs : List X) (n : ℕ) (v : X) → slice_get xs n ≡ Some v → n < length xs
some-below [] n v e = absurd (none_some v e)
some-below (x ∷ xs) zero v e = omega arith
some-below (x ∷ xs) (suc n) v e = let a = some-below xs n v e in omega (arith, a)

pub none-past : {X : Type 0} (xs : List X) (n : ℕ) → slice_get xs n ≡ None → length xs ≤ n
none-past [] n e = omega arith
none-past (x ∷ xs) zero e = absurd (none_some x (sym e))
none-past (x ∷ xs) (suc n) e = let a = none-past xs n e in omega (arith, a)

-- what f says of the one that is found, where f tells the place of each
pub place-found : {K : Type 0} (f : K → ℕ) (q : K → Bool) (ks : List K) → ((n : ℕ) (v : K) → slice_get ks n ≡ Some v → f v ≡ n)
    → option_map f (find q ks) ≡ position q ks
place-found {K} f q ks h = ap (option_map f) (find_at q ks) ∙ go (slice_get ks (position_or_len q ks)) refl
  where
    go : (o : Option K) → slice_get ks (position_or_len q ks) ≡ o → option_map f (slice_get ks (position_or_len q ks)) ≡ position q ks
    go (Some v) e =
        let n = position_or_len q ks in
        ap (option_map f) e ∙ ap Some (h n v e) ∙ sym (ap (λ b. cond b (Some n) None) (lt-ltb n (length ks) (some-below ks n v e)))
    go None e =
        let n = position_or_len q ks in
        ap (option_map f) e ∙ sym (ap (λ b. cond b (Some n) None) (le-ltb n (length ks) (none-past ks n e)))
