-- What a search by halves finds among things in the order of their names.
use Rattle.std.proofs.Common.{◌≡◌, inl, inr, ℕ, zero, suc, ◌+◌, ◌<◌, ◌≤◌, Bool, true, false, cond, ltb, List, [], ◌∷◌, length, get_or, refl, sym, ap, ◌∙◌, arith, Option, Some, None, Result, Ok, Err}
use Rattle.std.specs.Prelude.{position, MatchOption}
use Rattle.std.specs.List.{AllByRecursion, find, position_or_len}
use Rattle.std.specs.List.Sorted.{IsSearchInRange, IsBinarySearchResult, IsSortedBy}
use Rattle.std.specs.Cmp.{IsTotalOrder}
use Rattle.std.specs.declared.cmp.Ordering.{Ordering}
use Rattle.std.specs.declared.cmp.Ordering.TheVariants.{Less, Equal, Greater}
use Rattle.std.specs.Ordering.{nat_cmp, ordering_reverse, is_lt, on, then_cmp}
use Rattle.std.specs.Result.{result_ok}
use Rattle.std.proofs.lemmas.Bool.{ltb-true, ltb-false, lt-ltb, le-ltb, cases_lt}
use Rattle.std.proofs.lemmas.Bool.Decides.{nat_tests}
use Rattle.std.proofs.lemmas.Cmp.{nat_cmp_total, on_total, then_total, alike_right}
use Rattle.std.proofs.lemmas.Option.{slice_get-get_or, slice_get_past}
use Rattle.std.proofs.lemmas.List.Folds.{find_at}
use Rattle.std.proofs.lemmas.List.Sorted.{searchable_from_sorted}
use Rattle.std.proofs.lemmas.List.Sums.{position_or_len_is}
use Rattle.zed_types.specs.declared.stamp.Stamp.{Stamp}
use Rattle.zed_types.specs.declared.names.Name.{Name}
use Rattle.zed_types.specs.Stamp.{stamp_cmp}
use Rattle.zed_types.specs.Names.{same_name, NamesRise, is_earlier}

-- the order of names
abbrev pub name_cmp : Name → Name → Ordering
name_cmp = then_cmp (on (λ (a : Name). a.stamp) stamp_cmp) (on (λ (a : Name). a.index) nat_cmp)

stamps_total : IsTotalOrder stamp_cmp
stamps_total = then_total (on_total (λ (s : Stamp). s.time) nat_cmp_total) (on_total (λ (s : Stamp). s.replica) nat_cmp_total)

names_total : IsTotalOrder name_cmp
names_total = then_total (on_total (λ (a : Name). a.stamp) stamps_total) (on_total (λ (a : Name). a.index) nat_cmp_total)

earlier-less : (a b : Name) → is_earlier a b ≡ true → name_cmp a b ≡ Less
earlier-less a b h = grind (arith, nat_tests)

less-differs : (a b : Name) → name_cmp a b ≡ Less → same_name a b ≡ false
less-differs a b h = grind (arith, nat_tests)

greater-differs : (a b : Name) → name_cmp a b ≡ Greater → same_name a b ≡ false
greater-differs a b h = grind (arith, nat_tests)

equal-same : (a b : Name) → name_cmp a b ≡ Equal → same_name a b ≡ true
equal-same a b h = grind (arith, nat_tests)

module _ {X : Type 0} (name : X → Name) where
  -- of two members the one before has the earlier name
  rises_far : (xs : List X) (i j : ℕ) (d : X) → NamesRise name xs → i < j → j < length xs
      → name_cmp (name (get_or xs i d)) (name (get_or xs j d)) ≡ Less
  rises_far [] i j d h lt within = absurd (omega arith)
  rises_far (x ∷ xs) i zero d h lt within = absurd (omega arith)
  rises_far (x ∷ xs) (suc i) (suc j) d h lt within = rises_far xs i j d h.1 (omega arith) (omega arith)
  rises_far (x ∷ xs) zero (suc j) d h lt within = earlier-less (name x) (name (get_or xs j d)) (among xs j h.0 (omega arith))
    where
      among : (ys : List X) (k : ℕ) → AllByRecursion (λ y. is_earlier (name x) (name y) ≡ true) ys → k < length ys
          → is_earlier (name x) (name (get_or ys k d)) ≡ true
      among [] k a lt = absurd (omega arith)
      among (y ∷ ys) zero a lt = a.0
      among (y ∷ ys) (suc k) a lt = among ys k a.1 (omega arith)

  sorted : (xs : List X) → NamesRise name xs → IsSortedBy (λ a b. is_lt (name_cmp (name a) (name b))) xs
  sorted xs h k d low within =
      let less = rises_far xs k (k + 1) d h (omega arith) within in
      ap is_lt (names_total.antisymm (name (get_or xs (k + 1) d)) (name (get_or xs k d)) ∙ ap ordering_reverse less)

  -- whether a member has a name
  abbrev has_name : Name → X → Bool
  has_name n y = same_name (name y) n

  position_at : (test : X → Bool) (xs : List X) (i : ℕ) → position_or_len test xs ≡ i → i < length xs → position test xs ≡ Some i
  position_at test xs i e lt =
      let inside : ltb i (length xs) ≡ true = lt-ltb i (length xs) lt in
      rw (e, inside) refl

  position_none : (test : X → Bool) (xs : List X) → position_or_len test xs ≡ length xs → position test xs ≡ None
  position_none test xs e =
      let past : ltb (length xs) (length xs) ≡ false = le-ltb (length xs) (length xs) (omega arith) in
      rw (e, past) refl

  found : (n : Name) (xs : List X) (i : ℕ) (d : X) → NamesRise name xs → i < length xs → name_cmp (name (get_or xs i d)) n ≡ Equal
      → position (has_name n) xs ≡ Some i
  found n xs i d h within equal =
      let lower : (k : ℕ) → k < i → has_name n (get_or xs k d) ≡ false
      = λ k lt. less-differs (name (get_or xs k d)) n (sym (alike_right names_total (name (get_or xs i d)) n (name (get_or xs k d)) equal) ∙ rises_far xs k i d h lt within) in
      position_at (has_name n) xs i (position_or_len_is (has_name n) xs i d (omega arith) lower (λ lt. equal-same (name (get_or xs i d)) n equal)) within

  absent : (n : Name) (xs : List X) (i : ℕ) (d : X) → ((k : ℕ) → k < i → name_cmp (name (get_or xs k d)) n ≡ Less)
      → ((k : ℕ) → i ≤ k → k < length xs → name_cmp (name (get_or xs k d)) n ≡ Greater)
      → position (has_name n) xs ≡ None
  absent n xs i d low high =
      let none : (k : ℕ) → k < length xs → has_name n (get_or xs k d) ≡ false
      = λ k lt. elim (cases_lt k i) [ inl below ↦ less-differs (name (get_or xs k d)) n (low k below) | inr above ↦ greater-differs (name (get_or xs k d)) n (high k above lt) ] in
      position_none (has_name n) xs (position_or_len_is (has_name n) xs (length xs) d (omega arith) none (λ lt. absurd (omega arith)))

  -- a search by halves finds what a search from the front does
  pub sought : (n : Name) (xs : List X) (r : Result ℕ ℕ) → NamesRise name xs → IsSearchInRange r (length xs)
      → IsBinarySearchResult (λ y. name_cmp (name y) n) xs r
      → position (has_name n) xs ≡ result_ok r
  sought n [] (Ok i) h bound result = absurd (omega arith)
  sought n [] (Err i) h bound result = refl
  sought n (x ∷ xs) (Ok i) h bound result = found n (x ∷ xs) i x h bound (result x)
  sought n (x ∷ xs) (Err i) h bound result =
      let parted = result (searchable_from_sorted names_total name (x ∷ xs) n (sorted (x ∷ xs) h)) in
      absent n (x ∷ xs) i x (λ k lt. parted.0 k x (omega arith) lt) (λ k le lt. parted.1 k x le lt)

-- what is found stands at its place
pub found_there : {X : Type 0} (test : X → Bool) (xs : List X) (d : X) (o : Option ℕ) → o ≡ position test xs
    → MatchOption o (find test xs ≡ None) (λ k. find test xs ≡ Some (get_or xs k d))
found_there test xs d o e = go (ltb (position_or_len test xs) (length xs)) refl o e
  where
    go : (t : Bool) → ltb (position_or_len test xs) (length xs) ≡ t → (o : Option ℕ) → o ≡ cond t (Some (position_or_len test xs)) None
        → MatchOption o (find test xs ≡ None) (λ k. find test xs ≡ Some (get_or xs k d))
    go true h None e = absurd (cc)
    go true h (Some k) e =
        let same : position_or_len test xs ≡ k = cc in
        find_at test xs ∙ slice_get-get_or xs (position_or_len test xs) d (ltb-true _ _ h) ∙ ap (λ (i : ℕ). Some (get_or xs i d)) same
    go false h None e = find_at test xs ∙ slice_get_past xs (position_or_len test xs) (ltb-false _ _ h)
    go false h (Some k) e = absurd (cc)
