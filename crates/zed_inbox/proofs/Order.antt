-- The order of what an index lists: by thing, and then by stamp.
use Rattle.std.proofs.Common.{◌≡◌, ◌∙◌, Bool, true, false, cond, not, ◌||◌, ◌&&◌, List, [], ◌∷◌, refl, ap, sym, true≢false}
use Rattle.std.proofs.lemmas.Cmp.{nat_cmp_total, on_total, then_total, eq_by_cmp_equiv, alike_right, tied_back}
use Rattle.std.specs.Cmp.{IsTotalOrder}
use Rattle.std.specs.declared.cmp.Ordering.{Ordering}
use Rattle.std.specs.declared.cmp.Ordering.TheVariants.{Less, Equal, Greater}
use Rattle.std.specs.Ordering.{is_eq, is_gt, nat_cmp, ordering_then}
use Rattle.std.specs.BTreeMap.{is_at}
use Rattle.std.specs.List.{list_any}
use Rattle.zed_types.specs.declared.stamp.Stamp.{Stamp}
use Rattle.zed_types.specs.Stamp.{same_stamp, stamp_cmp}
use Rattle.zed_types.proofs.Orderings.{then_eq, both, either, stamp_same, name_same, equal_from}
use Rattle.zed_op.specs.declared.thing.Thing.{Thing}
use Rattle.zed_op.specs.declared.thing.Thing.TheVariants.{Board as board, Stat as stat, Text as text, Element as element}
use Rattle.zed_op.specs.contracts.thing.ThingOrd.TheImpl as thing_ord
use Rattle.zed_op.specs.contracts.thing.ThingOrd.TheImpl.Laws.{total-law}
use Rattle.zed_inbox.specs.Waiting.{same_thing}
use Rattle.zed_inbox.specs.Kept.{is_listed, ListsOne, ListsOneLess}
use Rattle.zed_inbox.proofs.Stamped.{alike}

-- an order of things that tells them apart as their names do
pub record IsThingOrder (R : Thing → Thing → Ordering) : Type 0 where
  pub total : IsTotalOrder R
  pub same : (x y : Thing) → is_eq (R x y) ≡ same_thing x y

pub stamps_total : IsTotalOrder stamp_cmp
stamps_total = then_total (on_total (λ (s : Stamp). s.time) nat_cmp_total) (on_total (λ (s : Stamp). s.replica) nat_cmp_total)

-- the order of things that the keys of the index go by
abbrev pub thing_cmp : Thing → Thing → Ordering
thing_cmp = (thing_ord.ghosts).cmp

thing_same : (x y : Thing) → is_eq (thing_cmp x y) ≡ same_thing x y
thing_same (board a) (board b) = name_same a.name b.name
thing_same (board a) (stat b) = refl
thing_same (board a) (text b) = refl
thing_same (board a) (element t b) = refl
thing_same (stat a) (board b) = refl
thing_same (stat a) (stat b) = name_same a.name b.name
thing_same (stat a) (text b) = refl
thing_same (stat a) (element t b) = refl
thing_same (text a) (board b) = refl
thing_same (text a) (stat b) = refl
thing_same (text a) (text b) = name_same a.name b.name
thing_same (text a) (element t b) = refl
thing_same (element t a) (board b) = refl
thing_same (element t a) (stat b) = refl
thing_same (element t a) (text b) = refl
thing_same (element t a) (element u b) =
    then_eq (ordering_then (stamp_cmp t.name.stamp u.name.stamp) (nat_cmp t.name.index u.name.index)) (ordering_then (stamp_cmp a.name.stamp b.name.stamp) (nat_cmp a.name.index b.name.index))
    ∙ both (name_same t.name u.name) (name_same a.name b.name)

thing_total : IsTotalOrder thing_cmp
thing_total = total-law

pub things : IsThingOrder thing_cmp
things = record { total = thing_total; same = thing_same }

or_after : (b a : Bool) → cond b true a ≡ (a || b)
or_after true true = refl
or_after true false = refl
or_after false true = refl
or_after false false = refl

and_after : (b a : Bool) → cond b false a ≡ (a && not b)
and_after true true = refl
and_after true false = refl
and_after false true = refl
and_after false false = refl

module _ (R : Thing → Thing → Ordering) where
  -- by thing, and then by stamp
  abbrev pub wait_cmp : Thing × Stamp → Thing × Stamp → Ordering
  wait_cmp a b = ordering_then (R a.0 b.0) (stamp_cmp a.1 b.1)

  module _ (o : IsThingOrder R) where
    pub back : (x y : Thing) → is_eq (R x y) ≡ same_thing y x
    back x y = (eq_by_cmp_equiv o.total).symm x y ∙ o.same y x

    -- things that are one with a third are one
    pub tie : (x y z : Thing) → same_thing y x ≡ true → same_thing z x ≡ true → R y z ≡ Equal
    tie x y z h k = o.total.congr y x z (equal_from (R y x) (o.same y x ∙ h)) ∙ tied_back o.total z x (equal_from (R z x) (o.same z x ∙ k))

    -- what comes after what is past a thing is past it
    pub beyond : (x : Thing) (m v : Thing × Stamp) → R x m.0 ≡ Less → wait_cmp m v ≡ Less → R x v.0 ≡ Less
    beyond x m v e h = go (R m.0 v.0) refl h
      where
        go : (r : Ordering) → R m.0 v.0 ≡ r → ordering_then r (stamp_cmp m.1 v.1) ≡ Less → R x v.0 ≡ Less
        go Less d k = o.total.trans x m.0 v.0 e d
        go Equal d k = sym (alike_right o.total m.0 v.0 x d) ∙ e
        go Greater d k = absurd (true≢false (ap is_gt k))

    key_same : (a b : Thing × Stamp) → is_eq (wait_cmp a b) ≡ (same_thing a.0 b.0 && same_stamp a.1 b.1)
    key_same a b = then_eq (R a.0 b.0) (stamp_cmp a.1 b.1) ∙ both (o.same a.0 b.0) (stamp_same a.1 b.1)

    key_back : (a b : Thing × Stamp) → is_eq (wait_cmp a b) ≡ (same_thing b.0 a.0 && same_stamp b.1 a.1)
    key_back a b = then_eq (R a.0 b.0) (stamp_cmp a.1 b.1) ∙ both (back a.0 b.0) (alike a.1 b.1)

    -- whether the set has a key
    told : (x : Thing) (s : Stamp) (ws : List (Thing × Stamp)) → list_any (is_at (wait_cmp (x, s))) ws ≡ is_listed x s ws
    told x s [] = refl
    told x s (w ∷ ws) = either (key_back (x, s) w) (told x s ws)

    -- what is listed after one key was put in or taken out
    listed_after : (n : Thing) (t : Stamp) (b : Bool) (old new : List (Thing × Stamp))
        → ((q : Thing × Stamp) → list_any (is_at (wait_cmp q)) new ≡ cond (is_at (wait_cmp (n, t)) q) b (list_any (is_at (wait_cmp q)) old))
        → (x : Thing) (s : Stamp) → is_listed x s new ≡ cond (same_thing n x && same_stamp t s) b (is_listed x s old)
    listed_after n t b old new h x s =
        sym (told x s new) ∙ h (x, s)
        ∙ ap (λ k. cond k b (list_any (is_at (wait_cmp (x, s))) old)) (key_same (n, t) (x, s))
        ∙ ap (λ v. cond (same_thing n x && same_stamp t s) b v) (told x s old)

    pub listed_with : (n : Thing) (t : Stamp) (old new : List (Thing × Stamp))
        → ((q : Thing × Stamp) → list_any (is_at (wait_cmp q)) new ≡ cond (is_at (wait_cmp (n, t)) q) true (list_any (is_at (wait_cmp q)) old))
        → ListsOne n t old new
    listed_with n t old new h =
        record { each = λ x s. listed_after n t true old new h x s ∙ or_after (same_thing n x && same_stamp t s) (is_listed x s old) }

    pub listed_without : (n : Thing) (t : Stamp) (old new : List (Thing × Stamp))
        → ((q : Thing × Stamp) → list_any (is_at (wait_cmp q)) new ≡ cond (is_at (wait_cmp (n, t)) q) false (list_any (is_at (wait_cmp q)) old))
        → ListsOneLess n t old new
    listed_without n t old new h =
        record { each = λ x s. listed_after n t false old new h x s ∙ and_after (same_thing n x && same_stamp t s) (is_listed x s old) }
