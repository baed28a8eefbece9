-- Values under keys, where just the keys of a list are looked at.
use Rattle.std.proofs.Common.{◌≡◌, ◌∙◌, Bool, true, false, cond, ◌&&◌, ◌||◌, List, [], ◌∷◌, find, map, Option, Some, None, refl, ap, sym, subst, true≢false}
use Rattle.std.proofs.lemmas.Cmp.{on_total, tied_itself}
use Rattle.std.proofs.lemmas.List.Kept.{IsStrictlySortedBy-filter}
use Rattle.std.proofs.lemmas.Map.Keys.{sorted_head, sorted_tail}
use Rattle.std.proofs.lemmas.Map.Lookups.{btree_set_from_contains}
use Rattle.std.specs.BTreeMap.{is_at}
use Rattle.std.specs.BTreeSet.{BTreeSet}
use Rattle.std.specs.Cmp.{IsTotalOrder}
use Rattle.std.specs.declared.cmp.Ordering.{Ordering}
use Rattle.std.specs.declared.cmp.Ordering.TheVariants.{Less, Equal, Greater}
use Rattle.std.specs.List.{filter, list_any, AllByRecursion}
use Rattle.std.specs.List.Sorted.{IsStrictlySortedBy}
use Rattle.std.specs.Option.{option_map, option_map_or}
use Rattle.std.specs.Ordering.{is_eq, ordering_reverse}
use Rattle.zed_types.specs.declared.names.Name.{Name}
use Rattle.zed_types.proofs.Orderings.{less_from, name_less, name_same, name_total}
use Rattle.zed_types.specs.Names.{NamesRise, is_earlier, name_cmp}
use Rattle.zed_stats.specs.ByName.{Under, IsOnlyName, key_cmp, same, under, change}
use Rattle.zed_stats.proofs.Found.{apart, one, rise-change}
use Rattle.zed_live.proofs.Pairs.{sorted_cons}

-- ---- the order of names

comes-first : (a b : Name) → is_earlier a b ≡ true → name_cmp a b ≡ Less
comes-first a b h = less_from (name_cmp a b) (name_less a b ∙ h)

-- a later name isn't an earlier one
later-apart : (a b : Name) → is_earlier a b ≡ true → is_eq (name_cmp b a) ≡ false
later-apart a b h = ap is_eq (name_total.antisymm b a ∙ ap ordering_reverse (comes-first a b h))

-- ---- what is done to a list of keys

-- the values under them are changed one after the other
abbrev pub change_each : {K X : Type 0} → (K → Name) → (X → X) → List K → Under K X → Under K X
change_each name f [] ys = ys
change_each name f (k ∷ ks) ys = change_each name f ks (change name k f ys)

-- the first of a list
abbrev first : {K : Type 0} → List K → Option K
first [] = None
first (k ∷ ks) = Some k

head_filter : {K : Type 0} (p : K → Bool) (ks : List K) → find p ks ≡ first (filter p ks)
head_filter p [] = refl
head_filter p (k ∷ ks) = go (p k) (head_filter p ks)
  where
    go : (v : Bool) → find p ks ≡ first (filter p ks) → cond v (Some k) (find p ks) ≡ first (cond v (k ∷ filter p ks) (filter p ks))
    go true more = refl
    go false more = more

there : (u v : Bool) → (v ≡ true → u ≡ true) → (v && u) ≡ v
there u true h = h refl
there u false h = refl

module _ {K : Type 0} (name : K → Name) where
  abbrev order : K → K → Ordering
  order = key_cmp name

  ordered : IsTotalOrder order
  ordered = on_total name name_total

  -- whether a key is in a list
  abbrev pub is_among : K → List K → Bool
  is_among k ks = list_any (is_at (key_cmp name k)) ks

  abbrev Rise : {X : Type 0} → Under K X → Type 0
  Rise ys = NamesRise (λ y. name y.0) ys

module _ {K : Type 0} (name : K → Name) (only : IsOnlyName name) where
  at_itself : (k c : K) → k ≡ c → is_eq (order name c k) ≡ true
  at_itself k c e = ap (λ d. is_eq (order name c d)) e ∙ ap is_eq (tied_itself (ordered name) c)

  at_other : (k c : K) → same name k c ≡ false → is_eq (order name c k) ≡ false
  at_other k c d = name_same (name c) (name k) ∙ apart name k c d

  exact : (a b : K) → order name a b ≡ Equal → a ≡ b
  exact a b h = one name only a b (sym (name_same (name a) (name b)) ∙ ap is_eq h)

  not_among : (k : K) (ks : List K) → AllByRecursion (λ c. order name k c ≡ Less) ks → is_among name k ks ≡ false
  not_among k [] a = refl
  not_among k (c ∷ ks) a = ap (λ r. is_eq r || is_among name k ks) a.0 ∙ not_among k ks a.1

  any_filter : (p : K → Bool) (k : K) (ks : List K) → is_among name k (filter p ks) ≡ (p k && is_among name k ks)
  any_filter p k [] = none (p k)
    where
      none : (v : Bool) → false ≡ (v && false)
      none true = refl
      none false = refl
  any_filter p k (c ∷ ks) = go (order name k c) refl (p c) refl (p k) refl (any_filter p k ks)
    where
      go : (r : Ordering) → order name k c ≡ r → (u : Bool) → p c ≡ u → (v : Bool) → p k ≡ v
          → is_among name k (filter p ks) ≡ (v && is_among name k ks)
          → is_among name k (cond u (c ∷ filter p ks) (filter p ks)) ≡ (v && (is_eq r || is_among name k ks))
      go Less e true m v n more = ap (λ r. is_eq r || is_among name k (filter p ks)) e ∙ more
      go Less e false m v n more = more
      go Greater e true m v n more = ap (λ r. is_eq r || is_among name k (filter p ks)) e ∙ more
      go Greater e false m v n more = more
      go Equal e true m true n more = ap (λ r. is_eq r || is_among name k (filter p ks)) e
      go Equal e true m false n more = absurd (true≢false (sym m ∙ ap p (sym (exact k c e)) ∙ n))
      go Equal e false m true n more = absurd (true≢false (sym n ∙ ap p (exact k c e) ∙ m))
      go Equal e false m false n more = more

  abbrev as_set : List K → BTreeSet K
  as_set ks = record { keys = ks }

  module _ {X : Type 0} where
    -- ---- each of them changed

    -- at once
    abbrev change_in : (X → X) → List K → Under K X → Under K X
    change_in f ks [] = []
    change_in f ks (y ∷ ys) = (y.0, cond (is_among name y.0 ks) (f y.1) y.1) ∷ change_in f ks ys

    in_none : (f : X → X) (ys : Under K X) → ys ≡ change_in f [] ys
    in_none f [] = refl
    in_none f (y ∷ ys) = ap (λ zs. y ∷ zs) (in_none f ys)

    -- a key that comes before those that are there changes nothing
    in_later : (f : X → X) (k : K) (ks : List K) (ys : Under K X) → AllByRecursion (λ y. is_earlier (name k) (name y.0) ≡ true) ys
        → change_in f ks ys ≡ change_in f (k ∷ ks) ys
    in_later f k ks [] a = refl
    in_later f k ks (y ∷ ys) a =
        ap (λ zs. (y.0, cond (is_among name y.0 ks) (f y.1) y.1) ∷ zs) (in_later f k ks ys a.1)
        ∙ ap (λ u. (y.0, cond (u || is_among name y.0 ks) (f y.1) y.1) ∷ change_in f (k ∷ ks) ys) (sym (later-apart (name k) (name y.0) a.0))

    one_more : (f : X → X) (k : K) (ks : List K) (ys : Under K X) → is_among name k ks ≡ false → Rise name ys
        → change_in f ks (change name k f ys) ≡ change_in f (k ∷ ks) ys
    one_more f k ks [] n r = refl
    one_more f k ks (y ∷ ys) n r = go (same name k y.0) refl (one_more f k ks ys n r.1)
      where
        go : (v : Bool) → same name k y.0 ≡ v → change_in f ks (change name k f ys) ≡ change_in f (k ∷ ks) ys
            → change_in f ks (cond v ((y.0, f y.1) ∷ ys) (y ∷ change name k f ys)) ≡ change_in f (k ∷ ks) (y ∷ ys)
        go true v more =
            let i : k ≡ y.0 = one name only k y.0 v in
            let none : is_among name y.0 ks ≡ false = ap (λ c. is_among name c ks) (sym i) ∙ n in
            let later : AllByRecursion (λ z. is_earlier (name k) (name z.0) ≡ true) ys =
            subst (λ c. AllByRecursion (λ z. is_earlier (name c) (name z.0) ≡ true) ys) (sym i) r.0 in
            ap (λ u. (y.0, cond u (f (f y.1)) (f y.1)) ∷ change_in f ks ys) none
            ∙ ap (λ zs. (y.0, f y.1) ∷ zs) (in_later f k ks ys later)
            ∙ ap (λ u. (y.0, cond (u || is_among name y.0 ks) (f y.1) y.1) ∷ change_in f (k ∷ ks) ys) (sym (at_itself k y.0 i))
        go false v more =
            ap (λ zs. (y.0, cond (is_among name y.0 ks) (f y.1) y.1) ∷ zs) more
            ∙ ap (λ u. (y.0, cond (u || is_among name y.0 ks) (f y.1) y.1) ∷ change_in f (k ∷ ks) ys) (sym (at_other k y.0 v))

    each_in : (f : X → X) (ks : List K) (ys : Under K X) → IsStrictlySortedBy (order name) ks → Rise name ys
        → change_each name f ks ys ≡ change_in f ks ys
    each_in f [] ys s r = in_none f ys
    each_in f (k ∷ ks) ys s r =
        each_in f ks (change name k f ys) (sorted_tail (order name) k ks s) (rise-change name only k f ys r) ∙ one_more f k ks ys (not_among k ks (sorted_head (order name) k ks s)) r

    in_all : (f : X → X) (ks : List K) (ys : Under K X) → AllByRecursion (λ y. is_among name y.0 ks ≡ false → f y.1 ≡ y.1) ys
        → change_in f ks ys ≡ map (λ y. (y.0, f y.1)) ys
    in_all f ks [] a = refl
    in_all f ks (y ∷ ys) a =
        ap (λ x. (y.0, x) ∷ change_in f ks ys) (go (is_among name y.0 ks) a.0) ∙ ap (λ zs. (y.0, f y.1) ∷ zs) (in_all f ks ys a.1)
      where
        go : (v : Bool) → (v ≡ false → f y.1 ≡ y.1) → cond v (f y.1) y.1 ≡ f y.1
        go true same = refl
        go false same = sym (same refl)

    -- where the others stay as they are, all are changed
    pub all_changed : (f : X → X) (ks : List K) (ys : Under K X) → IsStrictlySortedBy (order name) ks → Rise name ys
        → AllByRecursion (λ y. is_among name y.0 ks ≡ false → f y.1 ≡ y.1) ys
        → change_each name f ks ys ≡ map (λ y. (y.0, f y.1)) ys
    all_changed f ks ys s r a = each_in f ks ys s r ∙ in_all f ks ys a

    -- ---- the first of them whose value passes a test

    module _ (q : X → Bool) where
      -- the keys of those that pass
      abbrev keys_with : Under K X → List K
      keys_with [] = []
      keys_with (y ∷ ys) = cond (q y.1) (y.0 ∷ keys_with ys) (keys_with ys)

      head_keys : (ys : Under K X) → option_map (λ y. y.0) (find (λ y. q y.1) ys) ≡ first (keys_with ys)
      head_keys [] = refl
      head_keys (y ∷ ys) = go (q y.1) (head_keys ys)
        where
          go : (v : Bool) → option_map (λ y. y.0) (find (λ y. q y.1) ys) ≡ first (keys_with ys)
              → option_map (λ y. y.0) (cond v (Some y) (find (λ y. q y.1) ys)) ≡ first (cond v (y.0 ∷ keys_with ys) (keys_with ys))
          go true more = refl
          go false more = more

      all_keys : (P : K → Type 0) (ys : Under K X) → AllByRecursion (λ y. P y.0) ys → AllByRecursion P (keys_with ys)
      all_keys P [] a = tt
      all_keys P (y ∷ ys) a = go (q y.1) (all_keys P ys a.1)
        where
          go : (v : Bool) → AllByRecursion P (keys_with ys) → AllByRecursion P (cond v (y.0 ∷ keys_with ys) (keys_with ys))
          go true more = (a.0, more)
          go false more = more

      all_after : (k : K) (ys : Under K X) → AllByRecursion (λ y. is_earlier (name k) (name y.0) ≡ true) ys
          → AllByRecursion (λ y. order name k y.0 ≡ Less) ys
      all_after k [] a = tt
      all_after k (y ∷ ys) a = (comes-first (name k) (name y.0) a.0, all_after k ys a.1)

      sorted_keys : (ys : Under K X) → Rise name ys → IsStrictlySortedBy (order name) (keys_with ys)
      unfolding IsStrictlySortedBy
      sorted_keys [] r = tt
      sorted_keys (y ∷ ys) r = sorted_cons (order name) (q y.1) y.0 (keys_with ys) (λ h. all_keys (λ c. order name y.0 c ≡ Less) ys (all_after y.0 ys r.0)) (sorted_keys ys r.1)

      -- a key that passes is that of a value that does
      any_keys : (k : K) (ys : Under K X) → Rise name ys → is_among name k (keys_with ys) ≡ option_map_or q (under name k ys) false
      any_keys k [] r = refl
      any_keys k (y ∷ ys) r = go (same name k y.0) refl (q y.1) refl (any_keys k ys r.1)
        where
          go : (u : Bool) → same name k y.0 ≡ u → (v : Bool) → q y.1 ≡ v
              → is_among name k (keys_with ys) ≡ option_map_or q (under name k ys) false
              → is_among name k (cond v (y.0 ∷ keys_with ys) (keys_with ys)) ≡ option_map_or q (cond u (Some y.1) (under name k ys)) false
          go true m true n more = ap (λ w. w || is_among name k (keys_with ys)) (name_same (name k) (name y.0) ∙ m) ∙ sym n
          go true m false n more =
              let i : k ≡ y.0 = one name only k y.0 m in
              ap (λ c. is_among name c (keys_with ys)) i ∙ not_among y.0 (keys_with ys) (all_keys (λ c. order name y.0 c ≡ Less) ys (all_after y.0 ys r.0)) ∙ sym n
          go false m true n more = ap (λ w. w || is_among name k (keys_with ys)) (name_same (name k) (name y.0) ∙ m) ∙ more
          go false m false n more = more

      -- where each key whose value passes is among them, theirs is the first value that does
      pub first_found : (ks : List K) (ys : Under K X) → IsStrictlySortedBy (order name) ks → Rise name ys
          → ((k : K) → option_map_or q (under name k ys) false ≡ true → is_among name k ks ≡ true)
          → find (λ k. option_map_or q (under name k ys) false) ks ≡ option_map (λ y. y.0) (find (λ y. q y.1) ys)
      first_found ks ys s r all =
          let p = λ (k : K). option_map_or q (under name k ys) false in
          head_filter p ks
          ∙ ap first (btree_set_from_contains (ordered name) (as_set (filter p ks)) (as_set (keys_with ys)) (IsStrictlySortedBy-filter (order name) p ks s) (sorted_keys ys r)
          (λ k. any_filter p k ks ∙ there (is_among name k ks) (p k) (all k) ∙ sym (any_keys k ys r)) exact)
          ∙ sym (head_keys ys)
