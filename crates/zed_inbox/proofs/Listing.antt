-- What an index lists under a thing, in stamp order.
use Rattle.std.proofs.Common.{◌≡◌, ◌∙◌, ℕ, Bool, true, false, cond, ◌||◌, ◌&&◌, List, [], ◌∷◌, refl, ap, sym, true≢false, arith}
use Rattle.std.proofs.lemmas.Bool.Decides.{nat_tests}
use Rattle.std.proofs.lemmas.Map.Keys.{sorted_head, sorted_tail}
use Rattle.std.proofs.lemmas.Map.Lookups.{btree_set_from_contains}
use Rattle.std.specs.declared.cmp.Ordering.{Ordering}
use Rattle.std.specs.declared.cmp.Ordering.TheVariants.{Less, Equal, Greater}
use Rattle.std.specs.declared.ops.Bound.TheVariants.{Included, Unbounded}
use Rattle.std.specs.Ordering.{is_eq, is_gt, is_le, nat_cmp, ordering_then}
use Rattle.std.specs.BTreeMap.{is_at}
use Rattle.std.specs.BTreeMap.Range.{range_contains}
use Rattle.std.specs.BTreeSet.{BTreeSet}
use Rattle.std.specs.List.{filter, list_any, AllByRecursion}
use Rattle.std.specs.List.Sorted.{IsStrictlySortedBy}
use Rattle.zed_types.specs.declared.stamp.Stamp.{Stamp}
use Rattle.zed_types.specs.Stamp.{before, same_stamp, stamp_cmp}
use Rattle.zed_types.proofs.StampOrder.{same_stamp-true}
use Rattle.zed_types.proofs.Orderings.{either}
use Rattle.zed_op.specs.declared.op.Edit.{Edit}
use Rattle.zed_op.specs.declared.thing.Thing.{Thing}
use Rattle.zed_op.specs.Set.{IsRising, stamps_of}
use Rattle.zed_inbox.specs.Waiting.{same_thing, names, naming}
use Rattle.zed_inbox.specs.Kept.{is_listed, belongs, AreListed}
use Rattle.zed_inbox.proofs.Stamped.{alike}
use Rattle.zed_inbox.proofs.Order.{IsThingOrder, stamps_total, wait_cmp, back, tie, beyond}

-- the stamps that are listed under a thing
abbrev pub listed : Thing → List (Thing × Stamp) → List Stamp
listed x [] = []
listed x (w ∷ ws) = cond (same_thing w.0 x) (w.1 ∷ listed x ws) (listed x ws)

-- those at the head of a list
abbrev pub run : Thing → List (Thing × Stamp) → List Stamp
run x [] = []
run x (w ∷ ws) = cond (same_thing w.0 x) (w.1 ∷ run x ws) []

abbrev pub first : Stamp
first = record { time = 0; replica = 0 }

least : (n : ℕ) → is_gt (nat_cmp 0 n) ≡ false
least n = grind (arith, nat_tests)

both_least : (a b : Ordering) → is_gt a ≡ false → is_gt b ≡ false → is_le (ordering_then a b) ≡ true
both_least Less b h k = refl
both_least Equal Less h k = refl
both_least Equal Equal h k = refl
both_least Equal Greater h k = absurd (true≢false k)
both_least Greater b h k = absurd (true≢false h)

from_first : (t : Stamp) → is_le (stamp_cmp first t) ≡ true
from_first t = both_least (nat_cmp 0 t.time) (nat_cmp 0 t.replica) (least t.time) (least t.replica)

rising_less : (a b : Stamp) → before a b ≡ true → stamp_cmp a b ≡ Less
rising_less a b h = grind (arith, nat_tests)

-- ---- in order

sorted_none : IsStrictlySortedBy stamp_cmp []
unfolding IsStrictlySortedBy
sorted_none = tt

sorted_cons : (b : Bool) (t : Stamp) (ts : List Stamp) → (b ≡ true → AllByRecursion (λ u. stamp_cmp t u ≡ Less) ts)
    → IsStrictlySortedBy stamp_cmp ts
    → IsStrictlySortedBy stamp_cmp (cond b (t ∷ ts) ts)
unfolding IsStrictlySortedBy
sorted_cons true t ts a up = (a refl, up)
sorted_cons false t ts a up = up

stamps_past : (p : Edit → Bool) (a : Stamp) (es : List Edit) → AllByRecursion (λ f. before a f.stamp ≡ true) es
    → AllByRecursion (λ t. stamp_cmp a t ≡ Less) (stamps_of (filter p es))
stamps_past p a [] h = tt
stamps_past p a (e ∷ es) h = go (p e) (stamps_past p a es h.1)
  where
    go : (b : Bool) → AllByRecursion (λ t. stamp_cmp a t ≡ Less) (stamps_of (filter p es))
        → AllByRecursion (λ t. stamp_cmp a t ≡ Less) (stamps_of (cond b (e ∷ filter p es) (filter p es)))
    go true more = (rising_less a e.stamp h.0, more)
    go false more = more

sorted_naming : (p : Edit → Bool) (es : List Edit) → IsRising es → IsStrictlySortedBy stamp_cmp (stamps_of (filter p es))
sorted_naming p [] r = sorted_none
sorted_naming p (e ∷ es) r = go (p e) (sorted_naming p es r.1)
  where
    go : (b : Bool) → IsStrictlySortedBy stamp_cmp (stamps_of (filter p es))
        → IsStrictlySortedBy stamp_cmp (stamps_of (cond b (e ∷ filter p es) (filter p es)))
    go true more = sorted_cons true e.stamp (stamps_of (filter p es)) (λ h. stamps_past p e.stamp es r.0) more
    go false more = more

any_naming : (x : Thing) (s : Stamp) (es : List Edit)
    → list_any (is_at (stamp_cmp s)) (stamps_of (filter (names x) es)) ≡ list_any (belongs x s) es
any_naming x s [] = refl
any_naming x s (e ∷ es) = go (names x e) (any_naming x s es)
  where
    go : (b : Bool) → list_any (is_at (stamp_cmp s)) (stamps_of (filter (names x) es)) ≡ list_any (belongs x s) es
        → list_any (is_at (stamp_cmp s)) (stamps_of (cond b (e ∷ filter (names x) es) (filter (names x) es)))
        ≡ ((b && same_stamp e.stamp s) || list_any (belongs x s) es)
    go true more = either (alike s e.stamp) more
    go false more = more

exact : (a b : Stamp) → stamp_cmp a b ≡ Equal → a ≡ b
exact a b h = sym (same_stamp-true b a (sym (alike a b) ∙ ap is_eq h))

abbrev as_set : List Stamp → BTreeSet Stamp
as_set ts = record { keys = ts }

-- lists of stamps in order with the same members are equal
stamps_alike : (xs ys : List Stamp) → IsStrictlySortedBy stamp_cmp xs → IsStrictlySortedBy stamp_cmp ys
    → ((s : Stamp) → list_any (is_at (stamp_cmp s)) xs ≡ list_any (is_at (stamp_cmp s)) ys) → xs ≡ ys
stamps_alike xs ys up down same = btree_set_from_contains stamps_total (as_set xs) (as_set ys) up down same exact

any_listed : (x : Thing) (s : Stamp) (ws : List (Thing × Stamp)) → list_any (is_at (stamp_cmp s)) (listed x ws) ≡ is_listed x s ws
any_listed x s [] = refl
any_listed x s (w ∷ ws) = go (same_thing w.0 x) (any_listed x s ws)
  where
    go : (b : Bool) → list_any (is_at (stamp_cmp s)) (listed x ws) ≡ is_listed x s ws
        → list_any (is_at (stamp_cmp s)) (cond b (w.1 ∷ listed x ws) (listed x ws)) ≡ ((b && same_stamp w.1 s) || is_listed x s ws)
    go true more = either (alike s w.1) more
    go false more = more

module _ (R : Thing → Thing → Ordering) (o : IsThingOrder R) where
  stamps_after : (x : Thing) (w : Thing × Stamp) → same_thing w.0 x ≡ true → (vs : List (Thing × Stamp))
      → AllByRecursion (λ v. wait_cmp R w v ≡ Less) vs → AllByRecursion (λ t. stamp_cmp w.1 t ≡ Less) (listed x vs)
  stamps_after x w h [] a = tt
  stamps_after x w h (v ∷ vs) a = go (same_thing v.0 x) refl (stamps_after x w h vs a.1)
    where
      go : (b : Bool) → same_thing v.0 x ≡ b → AllByRecursion (λ t. stamp_cmp w.1 t ≡ Less) (listed x vs)
          → AllByRecursion (λ t. stamp_cmp w.1 t ≡ Less) (cond b (v.1 ∷ listed x vs) (listed x vs))
      go true k more = (sym (ap (λ r. ordering_then r (stamp_cmp w.1 v.1)) (tie R o x w.0 v.0 h k)) ∙ a.0, more)
      go false k more = more

  sorted_listed : (x : Thing) (ws : List (Thing × Stamp)) → IsStrictlySortedBy (wait_cmp R) ws → IsStrictlySortedBy stamp_cmp (listed x ws)
  sorted_listed x [] up = sorted_none
  sorted_listed x (w ∷ ws) up =
      sorted_cons (same_thing w.0 x) w.1 (listed x ws) (λ h. stamps_after x w h ws (sorted_head (wait_cmp R) w ws up)) (sorted_listed x ws (sorted_tail (wait_cmp R) w ws up))

  none_past : (x : Thing) (m : Thing × Stamp) → R x m.0 ≡ Less → (ws : List (Thing × Stamp))
      → AllByRecursion (λ v. wait_cmp R m v ≡ Less) ws
      → listed x ws ≡ []
  none_past x m e [] a = refl
  none_past x m e (v ∷ vs) a =
      let apart : same_thing v.0 x ≡ false = sym (back R o x v.0) ∙ ap is_eq (beyond R o x m v e a.0) in
      ap (λ b. cond b (v.1 ∷ listed x vs) (listed x vs)) apart ∙ none_past x m e vs a.1

  -- whether a key is at or behind the first place of a thing
  abbrev inside : Thing → Thing × Stamp → Bool
  inside x v = range_contains (wait_cmp R) (Included (x, first)) Unbounded v

  -- from the first key of a thing on, the keys at the head are all of the thing
  run_listed : (x : Thing) (ws : List (Thing × Stamp)) → IsStrictlySortedBy (wait_cmp R) ws
      → run x (filter (range_contains (wait_cmp R) (Included (x, first)) Unbounded) ws) ≡ listed x ws
  run_listed x [] up = refl
  run_listed x (w ∷ ws) up = go (R x w.0) refl (run_listed x ws (sorted_tail (wait_cmp R) w ws up))
    where
      go : (r : Ordering) → R x w.0 ≡ r → run x (filter (inside x) ws) ≡ listed x ws
          → run x (cond (inside x w) (w ∷ filter (inside x) ws) (filter (inside x) ws)) ≡ listed x (w ∷ ws)
      go Less e more =
          let within : inside x w ≡ true = ap (λ r. is_le (ordering_then r (stamp_cmp first w.1)) && true) e in
          let apart : same_thing w.0 x ≡ false = sym (back R o x w.0) ∙ ap is_eq e in
          ap (λ b. run x (cond b (w ∷ filter (inside x) ws) (filter (inside x) ws))) within
          ∙ ap (λ b. cond b (w.1 ∷ run x (filter (inside x) ws)) []) apart
          ∙ sym (none_past x w e ws (sorted_head (wait_cmp R) w ws up))
          ∙ sym (ap (λ b. cond b (w.1 ∷ listed x ws) (listed x ws)) apart)
      go Equal e more =
          let within : inside x w ≡ true =
          ap (λ r. is_le (ordering_then r (stamp_cmp first w.1)) && true) e ∙ ap (λ b. b && true) (from_first w.1) in
          let one : same_thing w.0 x ≡ true = sym (back R o x w.0) ∙ ap is_eq e in
          ap (λ b. run x (cond b (w ∷ filter (inside x) ws) (filter (inside x) ws))) within
          ∙ ap (λ b. cond b (w.1 ∷ run x (filter (inside x) ws)) []) one
          ∙ ap (λ ts. w.1 ∷ ts) more
          ∙ sym (ap (λ b. cond b (w.1 ∷ listed x ws) (listed x ws)) one)
      go Greater e more =
          let within : inside x w ≡ false = ap (λ r. is_le (ordering_then r (stamp_cmp first w.1)) && true) e in
          let apart : same_thing w.0 x ≡ false = sym (back R o x w.0) ∙ ap is_eq e in
          ap (λ b. run x (cond b (w ∷ filter (inside x) ws) (filter (inside x) ws))) within
          ∙ more
          ∙ sym (ap (λ b. cond b (w.1 ∷ listed x ws) (listed x ws)) apart)

  -- the keys of a thing have the stamps of the edits that name it
  pub found_stamps : (x : Thing) (ws : List (Thing × Stamp)) (es : List Edit) → IsStrictlySortedBy (wait_cmp R) ws → IsRising es
      → AreListed ws es
      → run x (filter (range_contains (wait_cmp R) (Included (x, first)) Unbounded) ws) ≡ stamps_of (naming x es)
  found_stamps x ws es up rises are =
      run_listed x ws up
      ∙ stamps_alike (listed x ws) (stamps_of (naming x es)) (sorted_listed x ws up) (sorted_naming (names x) es rises) (λ s. any_listed x s ws ∙ are x s ∙ sym (any_naming x s es))
