-- A word, cut at the first of some byte.
use Rattle.std.proofs.Common.{◌≡◌, ◌≢◌, ℕ, ◌+◌, ◌<◌, true, false, ◌==◌, List, [], ◌∷◌, ◌++◌, length, get_or, Option, Some, None, refl, ap, ◌∙◌, arith}
use Rattle.std.specs.Prelude.{MatchOption}
use Rattle.std.specs.Borrow.{Bor}
use Rattle.std.proofs.lemmas.Bool.Decides.{nat_tests}
use Rattle.std.proofs.lemmas.Grind.{common_steps}
use Rattle.std.proofs.lemmas.Str.Pattern.{IsSplitOnceResult, split_parts}
use Rattle.zed_set_words.specs.Values.{cut}

-- no byte of the list is c
abbrev pub Free : ℕ → List ℕ → Type 0
Free c [] = Unit {0}
Free c (x ∷ xs) = ((x == c) ≡ false) × Free c xs

-- the same, by the places of the bytes
abbrev Lacks : ℕ → List ℕ → Type 0
Lacks c xs = (i : ℕ) → i < length xs → get_or xs i 0 ≢ c

head_differs : (c x : ℕ) (xs : List ℕ) → Lacks c (x ∷ xs) → (x == c) ≡ false
head_differs c x xs h = let ne : x ≢ c = h 0 (grind (arith, common_steps)) in grind (arith, nat_tests)

tail_lacks : (c x : ℕ) (xs : List ℕ) → Lacks c (x ∷ xs) → Lacks c xs
tail_lacks c x xs h i lt = let k = h (i + 1) (grind (arith, common_steps)) in grind (arith, common_steps)

free_of : (c : ℕ) (xs : List ℕ) → Lacks c xs → Free c xs
free_of c [] h = tt
free_of c (x ∷ xs) h = (head_differs c x xs h, free_of c xs (tail_lacks c x xs h))

same_test : (c : ℕ) → (c == c) ≡ true
same_test c = grind (arith, nat_tests)

pub cut_none : (c : ℕ) (xs : List ℕ) → Free c xs → cut c xs ≡ None
cut_none c [] h = refl
cut_none c (x ∷ xs) h = rw (h.0, cut_none c xs h.1) refl

pub cut_at : (c : ℕ) (xs ys : List ℕ) → Free c xs → cut c (xs ++ c ∷ ys) ≡ Some (xs, ys)
cut_at c [] ys h = rw (same_test c) refl
cut_at c (x ∷ xs) ys h = rw (h.0, cut_at c xs ys h.1) refl

-- what `split_once` answers
pub cut_is : (c : ℕ) (bs : List ℕ) (r : Option (Bor (List ℕ) × Bor (List ℕ))) → IsSplitOnceResult c bs r → c < 128
    → MatchOption r (cut c bs ≡ None) (λ x. cut c bs ≡ Some (x.0.now, x.1.now))
cut_is c bs None h low = cut_none c bs (free_of c bs (split_parts c bs None h low))
cut_is c bs (Some x) h low =
    let parts = split_parts c bs (Some x) h low in
    ap (cut c) parts.0 ∙ cut_at c x.0.now x.1.now (free_of c x.0.now parts.1)
