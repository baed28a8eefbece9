-- Pairs in order, by their first parts and then by their second: those of one first part stand in a row.
use Rattle.std.proofs.Common.{◌≡◌, ◌∙◌, Bool, true, false, cond, ◌&&◌, ◌||◌, List, [], ◌∷◌, refl, ap, sym, true≢false}
use Rattle.std.proofs.lemmas.Cmp.{alike_right, tied_back, tied_itself}
use Rattle.std.proofs.lemmas.Map.Keys.{sorted_head, sorted_tail}
use Rattle.std.specs.Cmp.{IsTotalOrder}
use Rattle.std.specs.declared.cmp.Ordering.{Ordering}
use Rattle.std.specs.declared.cmp.Ordering.TheVariants.{Less, Equal, Greater}
use Rattle.std.specs.declared.ops.Bound.TheVariants.{Included, Unbounded}
use Rattle.std.specs.Ordering.{is_eq, is_gt, is_le, ordering_then}
use Rattle.std.specs.BTreeMap.{is_at}
use Rattle.std.specs.BTreeMap.Range.{range_contains}
use Rattle.std.specs.List.{filter, list_any, AllByRecursion}
use Rattle.std.specs.List.Sorted.{IsStrictlySortedBy}
use Rattle.zed_types.proofs.Orderings.{equal_from, then_eq}
use Rattle.zed_live.specs.Listed.{listed}

-- ---- what a set has after one more is put in

module _ {K : Type 0} (R : K → K → Ordering) (k : K) (old new : List K) where
  pub stays : ((q : K) → list_any (is_at (R q)) new ≡ cond (is_at (R k) q) true (list_any (is_at (R q)) old)) → (q : K)
      → list_any (is_at (R q)) old ≡ true
      → list_any (is_at (R q)) new ≡ true
  stays h q was = h q ∙ go (is_at (R k) q)
    where
      go : (b : Bool) → cond b true (list_any (is_at (R q)) old) ≡ true
      go true = refl
      go false = was

  pub is_put : IsTotalOrder R → ((q : K) → list_any (is_at (R q)) new ≡ cond (is_at (R k) q) true (list_any (is_at (R q)) old))
      → list_any (is_at (R k)) new ≡ true
  is_put o h = h k ∙ ap (λ r. cond (is_eq r) true (list_any (is_at (R k)) old)) (tied_itself o k)

-- ---- the second parts that are listed with a first part

-- those at the head of a list
abbrev pub run : {A B : Type 0} → (A → A → Bool) → A → List (A × B) → List B
run same x [] = []
run same x (w ∷ ws) = cond (same w.0 x) (w.1 ∷ run same x ws) []

pub sorted_none : {B : Type 0} (S : B → B → Ordering) → IsStrictlySortedBy S []
unfolding IsStrictlySortedBy
sorted_none S = tt

pub sorted_cons : {B : Type 0} (S : B → B → Ordering) (b : Bool) (t : B) (ts : List B) → (b ≡ true → AllByRecursion (λ u. S t u ≡ Less) ts)
    → IsStrictlySortedBy S ts
    → IsStrictlySortedBy S (cond b (t ∷ ts) ts)
unfolding IsStrictlySortedBy
sorted_cons S true t ts a up = (a refl, up)
sorted_cons S false t ts a up = up

module _ {A B : Type 0} (R : A → A → Ordering) (S : B → B → Ordering) where
  -- by the first part, and then by the second
  abbrev pub both_cmp : A × B → A × B → Ordering
  both_cmp a b = ordering_then (R a.0 b.0) (S a.1 b.1)

  module _ (same : A → A → Bool) (o : IsTotalOrder R) (told : (x y : A) → is_eq (R x y) ≡ same y x) where
    -- firsts that are one with a third are one
    tie : (x y z : A) → same y x ≡ true → same z x ≡ true → R y z ≡ Equal
    tie x y z h k = o.congr y x z (tied_back o x y (equal_from (R x y) (told x y ∙ h))) ∙ equal_from (R x z) (told x z ∙ k)

    -- what comes after what is past a first part is past it
    beyond : (x : A) (m v : A × B) → R x m.0 ≡ Less → both_cmp m v ≡ Less → R x v.0 ≡ Less
    beyond x m v e h = go (R m.0 v.0) refl h
      where
        go : (r : Ordering) → R m.0 v.0 ≡ r → ordering_then r (S m.1 v.1) ≡ Less → R x v.0 ≡ Less
        go Less d k = o.trans x m.0 v.0 e d
        go Equal d k = sym (alike_right o m.0 v.0 x d) ∙ e
        go Greater d k = absurd (true≢false (ap is_gt k))

    -- whether one is listed
    pub any_listed : (x : A) (b : B) (ws : List (A × B)) → list_any (is_at (S b)) (listed same x ws) ≡ list_any (is_at (both_cmp (x, b))) ws
    any_listed x b [] = refl
    any_listed x b (w ∷ ws) =
        go (same w.0 x) (any_listed x b ws)
        ∙ ap (λ v. (v && is_eq (S b w.1)) || list_any (is_at (both_cmp (x, b))) ws) (sym (told x w.0))
        ∙ ap (λ v. v || list_any (is_at (both_cmp (x, b))) ws) (sym (then_eq (R x w.0) (S b w.1)))
      where
        go : (v : Bool) → list_any (is_at (S b)) (listed same x ws) ≡ list_any (is_at (both_cmp (x, b))) ws
            → list_any (is_at (S b)) (cond v (w.1 ∷ listed same x ws) (listed same x ws))
            ≡ ((v && is_eq (S b w.1)) || list_any (is_at (both_cmp (x, b))) ws)
        go true more = ap (λ u. is_eq (S b w.1) || u) more
        go false more = more

    seconds_after : (x : A) (w : A × B) → same w.0 x ≡ true → (vs : List (A × B))
        → AllByRecursion (λ v. both_cmp w v ≡ Less) vs → AllByRecursion (λ t. S w.1 t ≡ Less) (listed same x vs)
    seconds_after x w h [] a = tt
    seconds_after x w h (v ∷ vs) a = go (same v.0 x) refl (seconds_after x w h vs a.1)
      where
        go : (b : Bool) → same v.0 x ≡ b → AllByRecursion (λ t. S w.1 t ≡ Less) (listed same x vs)
            → AllByRecursion (λ t. S w.1 t ≡ Less) (cond b (v.1 ∷ listed same x vs) (listed same x vs))
        go true k more = (sym (ap (λ r. ordering_then r (S w.1 v.1)) (tie x w.0 v.0 h k)) ∙ a.0, more)
        go false k more = more

    -- they are in order
    pub sorted_listed : (x : A) (ws : List (A × B)) → IsStrictlySortedBy both_cmp ws → IsStrictlySortedBy S (listed same x ws)
    sorted_listed x [] up = sorted_none S
    sorted_listed x (w ∷ ws) up =
        sorted_cons S (same w.0 x) w.1 (listed same x ws) (λ h. seconds_after x w h ws (sorted_head both_cmp w ws up)) (sorted_listed x ws (sorted_tail both_cmp w ws up))

    none_past : (x : A) (m : A × B) → R x m.0 ≡ Less → (ws : List (A × B)) → AllByRecursion (λ v. both_cmp m v ≡ Less) ws
        → listed same x ws ≡ []
    none_past x m e [] a = refl
    none_past x m e (v ∷ vs) a =
        let apart : same v.0 x ≡ false = sym (told x v.0) ∙ ap is_eq (beyond x m v e a.0) in
        ap (λ b. cond b (v.1 ∷ listed same x vs) (listed same x vs)) apart ∙ none_past x m e vs a.1

    module _ (first : B) (least : (b : B) → is_le (S first b) ≡ true) where
      -- whether a pair is at or behind the first place of a first part
      abbrev pub is_from : A → A × B → Bool
      is_from x v = range_contains both_cmp (Included (x, first)) Unbounded v

      -- from the first pair of a first part on, the pairs at the head are all that have it
      pub run_listed : (x : A) (ws : List (A × B)) → IsStrictlySortedBy both_cmp ws
          → run same x (filter (range_contains both_cmp (Included (x, first)) Unbounded) ws) ≡ listed same x ws
      run_listed x [] up = refl
      run_listed x (w ∷ ws) up = go (R x w.0) refl (run_listed x ws (sorted_tail both_cmp w ws up))
        where
          go : (r : Ordering) → R x w.0 ≡ r → run same x (filter (is_from x) ws) ≡ listed same x ws
              → run same x (cond (is_from x w) (w ∷ filter (is_from x) ws) (filter (is_from x) ws)) ≡ listed same x (w ∷ ws)
          go Less e more =
              let within : is_from x w ≡ true = ap (λ r. is_le (ordering_then r (S first w.1)) && true) e in
              let apart : same w.0 x ≡ false = sym (told x w.0) ∙ ap is_eq e in
              ap (λ b. run same x (cond b (w ∷ filter (is_from x) ws) (filter (is_from x) ws))) within
              ∙ ap (λ b. cond b (w.1 ∷ run same x (filter (is_from x) ws)) []) apart
              ∙ sym (none_past x w e ws (sorted_head both_cmp w ws up))
              ∙ sym (ap (λ b. cond b (w.1 ∷ listed same x ws) (listed same x ws)) apart)
          go Equal e more =
              let within : is_from x w ≡ true =
              ap (λ r. is_le (ordering_then r (S first w.1)) && true) e ∙ ap (λ b. b && true) (least w.1) in
              let one : same w.0 x ≡ true = sym (told x w.0) ∙ ap is_eq e in
              ap (λ b. run same x (cond b (w ∷ filter (is_from x) ws) (filter (is_from x) ws))) within
              ∙ ap (λ b. cond b (w.1 ∷ run same x (filter (is_from x) ws)) []) one
              ∙ ap (λ ts. w.1 ∷ ts) more
              ∙ sym (ap (λ b. cond b (w.1 ∷ listed same x ws) (listed same x ws)) one)
          go Greater e more =
              let within : is_from x w ≡ false = ap (λ r. is_le (ordering_then r (S first w.1)) && true) e in
              let apart : same w.0 x ≡ false = sym (told x w.0) ∙ ap is_eq e in
              ap (λ b. run same x (cond b (w ∷ filter (is_from x) ws) (filter (is_from x) ws))) within
              ∙ more
              ∙ sym (ap (λ b. cond b (w.1 ∷ listed same x ws) (listed same x ws)) apart)
