-- Where something is found in a list.
use Rattle.std.proofs.Common.{◌≡◌, ◌⊎◌, inl, inr, ℕ, suc, ◌+◌, ◌<◌, ◌≤◌, Bool, true, false, not, cond, eqb, ltb, List, [], ◌∷◌, ◌++◌, length, refl, sym, ap, ◌∙◌, arith, eq-eqb, Some, None, IfSome}
use Rattle.std.specs.Prelude.{position, unwrap_or, slice_get}
use Rattle.std.specs.List.{position_or_len, prefix_len}
use Rattle.std.proofs.lemmas.Bool.{ltb-true, lt-ltb, le-ltb, ne_eqb, cases_lt}
use Rattle.std.proofs.lemmas.List.{length_push}
use Rattle.std.proofs.lemmas.List.Folds.{position_or_len_push}

found_below : (k n : ℕ) (t : Bool) → ltb k n ≡ t → IfSome (cond t (Some k) None) (λ m. m < n)
found_below k n true e = ltb-true k n e
found_below k n false e = tt

-- what is found stands in the list
pub found_within : {X : Type 0} (test : X → Bool) (xs : List X) → IfSome (position test xs) (λ n. n < length xs)
found_within test xs = found_below (position_or_len test xs) (length xs) (ltb (position_or_len test xs) (length xs)) refl

default_below : (k n : ℕ) (t : Bool) → ltb k n ≡ t → 1 ≤ n → unwrap_or (cond t (Some k) None) 0 < n
default_below k n true e some = ltb-true k n e
default_below k n false e some = some

-- what is found, or 0, is a number of a list that isn't empty
pub found_or_0 : {X : Type 0} (test : X → Bool) (xs : List X) → 1 ≤ length xs → unwrap_or (position test xs) 0 < length xs
found_or_0 test xs some = default_below (position_or_len test xs) (length xs) (ltb (position_or_len test xs) (length xs)) refl some

front_within : {X : Type 0} (test : X → Bool) (xs : List X) → prefix_len test xs ≤ length xs
front_within test [] = omega arith
front_within test (x ∷ xs) = go (test x) (front_within test xs)
  where
    go : (t : Bool) → prefix_len test xs ≤ length xs → cond t (1 + prefix_len test xs) 0 ≤ suc (length xs)
    go true h = omega arith
    go false h = omega arith

new_member : (t : Bool) (end more m n : ℕ) → end ≡ more → end ≡ m + 1
    → cond (ltb (m + cond t 0 1) more) (Some (m + cond t 0 1)) None ≡ Some n
    → (t ≡ true) × (n ≡ m)
new_member true end more m n e f found =
    let test : ltb (m + 0) more ≡ true = lt-ltb (m + 0) more (omega arith) in
    let same : Some (m + 0) ≡ Some n = sym (ap (λ (b : Bool). cond b (Some (m + 0)) None) test) ∙ found in
    let h : m + 0 ≡ n = cc in
    (refl, omega arith)
new_member false end more m n e f found =
    let test : ltb (m + 1) more ≡ false = le-ltb (m + 1) more (omega arith) in
    let same : None ≡ Some n = sym (ap (λ (b : Bool). cond b (Some (m + 1)) None) test) ∙ found in
    absurd (cc)

-- what is found in a list with one more member is found before, or is that member
pub found_in_more : {X : Type 0} (test : X → Bool) (xs : List X) (y : X) (n : ℕ) → position test (xs ++ y ∷ []) ≡ Some n
    → (position test xs ≡ Some n) ⊎ ((position test xs ≡ None) × (test y ≡ true) × (n ≡ length xs))
found_in_more test xs y n e = elim (cases_lt k m) [ inl lt ↦ inl (before lt) | inr ge ↦ inr (last (test y) refl ge) ]
  where
    k : ℕ
    k = position_or_len test xs

    m : ℕ
    m = length xs

    more : ℕ
    more = length (xs ++ y ∷ [])

    longer : more ≡ m + 1
    longer = length_push xs y

    before : k < m → position test xs ≡ Some n
    before lt =
        let ne : eqb k m ≡ false = ne_eqb k m (λ h. omega arith) in
        let same : position_or_len test (xs ++ y ∷ []) ≡ k =
        position_or_len_push test xs y ∙ ap (λ (t : Bool). cond t (m + cond (test y) 0 1) k) ne in
        let inside : ltb k more ≡ true = lt-ltb k more (omega (arith, longer)) in
        let here : ltb k m ≡ true = lt-ltb k m lt in
        let found : Some k ≡ Some n =
        sym (ap (λ (i : ℕ). cond (ltb i more) (Some i) None) same ∙ ap (λ (t : Bool). cond t (Some k) None) inside) ∙ e in
        ap (λ (t : Bool). cond t (Some k) None) here ∙ found

    last : (t : Bool) → test y ≡ t → m ≤ k → (position test xs ≡ None) × (test y ≡ true) × (n ≡ length xs)
    last t h ge =
        let here : ltb k m ≡ false = le-ltb k m ge in
        let at_end : eqb k m ≡ true = eq-eqb k m (omega (arith, front_within (λ x. not (test x)) xs)) in
        let place : position_or_len test (xs ++ y ∷ []) ≡ m + cond t 0 1 =
        position_or_len_push test xs y ∙ ap (λ (b : Bool). cond b (m + cond (test y) 0 1) k) at_end
        ∙ ap (λ (b : Bool). m + cond b 0 1) h in
        let found : cond (ltb (m + cond t 0 1) more) (Some (m + cond t 0 1)) None ≡ Some n =
        sym (ap (λ (i : ℕ). cond (ltb i more) (Some i) None) place) ∙ e in
        let it = new_member t (m + 1) more m n (sym longer) refl found in
        (ap (λ (b : Bool). cond b (Some k) None) here, h ∙ it.0, it.1)

pub get_last : {X : Type 0} (xs : List X) (x : X) → slice_get (xs ++ x ∷ []) (length xs) ≡ Some x
get_last [] x = refl
get_last (y ∷ xs) x = get_last xs x
