-- What waits for things is tried.
use Rattle.std.proofs.Common.{◌≡◌, ◌∙◌, Bool, true, false, ◌||◌, List, [], ◌∷◌, ◌++◌, refl, ap, sym}
use Rattle.std.specs.List.{list_any}
use Rattle.std.proofs.lemmas.List.Folds.{list_any-append}
use mathlib.Core.Logic.{◌⊎◌, inl, inr}
use Rattle.zed_op.specs.declared.op.Edit.{Edit}
use Rattle.zed_op.specs.declared.thing.Thing.{Thing}
use Rattle.zed_op.proofs.Sets.{Member}
use Rattle.zed_laws.specs.Making.{makes}
use Rattle.zed_inbox.specs.Waiting.{same_thing}
use Rattle.zed_delivery.specs.declared.body.Body.{Body}
use Rattle.zed_delivery.specs.Cascade.{Waits, IsHalfway}
use Rattle.zed_delivery.specs.Made.{is_among, things_made}
use Rattle.zed_delivery.specs.Shows.{IsBodyHalfway}
use Rattle.zed_delivery.specs.Steps.{awaited, IsReleased, AreInHand, AreTried}
use Rattle.zed_delivery.specs.Waking.{or_among, AreToWake, IsWoken, AreWoken, IsFollowed}
use Rattle.zed_delivery.proofs.Cascades.{or-last}
use Rattle.zed_delivery.proofs.MadeThings.{all_made, same_thing-true}

-- other things may be to come where all that wait still do
still_halfway : (all done waits hand : List Edit) (before after : Thing → Bool) → ((e : Edit) → Member e waits → Waits done after e)
    → IsHalfway all done waits hand before
    → IsHalfway all done waits hand after
still_halfway all done waits hand before after wait h = record {
  rising = h.rising;
  fit = h.fit;
  done_rise = h.done_rise;
  waits_rise = h.waits_rise;
  hand_rise = h.hand_rise;
  none_held = h.none_held;
  each = h.each;
  done_in = h.done_in;
  waits_in = h.waits_in;
  hand_in = h.hand_in;
  waits_apart = h.waits_apart;
  hand_apart = h.hand_apart;
  hand_new = h.hand_new;
  waiting = wait;
}

-- more things may be to come, and any where none waits
pub more_to_come : (all done waits hand : List Edit) (before after : Thing → Bool) → ((x : Thing) → before x ≡ true → after x ≡ true)
    → IsHalfway all done waits hand before
    → IsHalfway all done waits hand after
more_to_come all done waits hand before after more h =
    still_halfway all done waits hand before after (λ e m. elim (h.waiting e m) [ inl c ↦ inl c | inr a ↦ inr (a.0, a.1, more a.0 a.2) ]) h

pub body_more : (all hand : List Edit) (before after : Thing → Bool) (b : Body) → ((x : Thing) → before x ≡ true → after x ≡ true)
    → IsBodyHalfway all hand before b
    → IsBodyHalfway all hand after b
body_more all hand before after b more h = (h.0, h.1, more_to_come all h.0 b.inbox hand before after more h.2)

-- ---- one thing

goes_on : (Q : Type 0) (a r n : Bool) → (a ≡ true → Q ⊎ (n ≡ true)) → (a || r) ≡ true → Q ⊎ ((n || r) ≡ true)
goes_on Q true r n f h = elim (f refl) [ inl q ↦ inl q | inr t ↦ inr (ap (λ v. v || r) t) ]
goes_on Q false r n f h = inr (ap (λ v. n || v) h ∙ or-last n)

pub released_in_hand : (x : Thing) (released done : List Edit) (b c : Body) → AreInHand [] done b → IsReleased x released b c
    → AreInHand released done c
released_in_hand x released done b c h r = (h.0, h.1, r h.0 (awaited h.1 done) (awaited h.1 done) h.2 (λ y k. inr k))

pub is_woken : (x : Thing) (released old new : List Edit) (b c d : Body) → IsReleased x released b c → AreTried released c old [] d new
    → IsWoken x b old d new
is_woken x released old new b c d r t all before after h goes =
    t all after (r all (awaited before old) (awaited after old) h
    (λ y k. goes_on (y ≡ x) (before y) (list_any (λ e. makes e y) old) (after y) (λ q. goes y q) k))

-- ---- things, one after the other

one_of_two : (Q : Type 0) (a b c : Bool) → (b ≡ true → Q) → (a || (b || c)) ≡ true → Q ⊎ ((a || c) ≡ true)
one_of_two Q true b c f h = inr refl
one_of_two Q false true c f h = inl (f refl)
one_of_two Q false false c f h = inr h

pub next_to_wake : (things : List Thing) (b : Body) (old : List Edit) (rest : List Thing) (c : Body) (mid : List Edit)
    → AreToWake things old b → AreWoken things b old rest c mid
    → AreInHand [] mid c
next_to_wake things b old rest c mid h many = (h.0, or_among h.1 rest, many h.0 h.1 h.2)

pub woken_one_more : (things : List Thing) (b : Body) (old : List Edit) (x : Thing) (rest : List Thing) (c : Body) (mid : List Edit) (d : Body) (new : List Edit)
    → AreWoken things b old (x ∷ rest) c mid → IsWoken x c mid d new → AreWoken things b old rest d new
woken_one_more things b old x rest c mid d new many one all others h =
    one all (or_among others (x ∷ rest)) (or_among others rest) (many all others h)
    (λ y k. one_of_two (y ≡ x) (others y) (same_thing x y) (is_among rest y) (λ e. same_thing-true x y e) k)

-- ---- the things of an edit

among_now : (o l m a : Bool) → (m ≡ true → a ≡ true) → (o || (l || (m || false))) ≡ true → ((o || a) || l) ≡ true
among_now true l m a f h = refl
among_now false true m a f h = or-last a
among_now false false true a f h = ap (λ v. v || false) (f refl)
among_now false false false a f h = absurd (cc)

made_now : (e : Edit) (old : List Edit) (others : Thing → Bool) (x : Thing) → awaited others (old ++ e ∷ []) x ≡ true
    → awaited (or_among others (things_made e.stamp e.op)) old x ≡ true
made_now e old others x h =
    among_now (others x) (list_any (λ f. makes f x) old) (makes e x) (is_among (things_made e.stamp e.op) x) (all_made e x)
    (sym (ap (λ v. others x || v) (list_any-append (λ f. makes f x) old (e ∷ []))) ∙ h)

none_left : (o l : Bool) → ((o || false) || l) ≡ true → (o || l) ≡ true
none_left true l h = refl
none_left false l h = h

pub to_wake : (e : Edit) (old : List Edit) (b : Body) → AreInHand [] (old ++ e ∷ []) b → AreToWake (things_made e.stamp e.op) old b
to_wake e old b h = (h.0, h.1, body_more h.0 [] (awaited h.1 (old ++ e ∷ [])) (awaited (or_among h.1 (things_made e.stamp e.op)) old) b (made_now e old h.1) h.2)

pub is_followed : (e : Edit) (old new : List Edit) (b c : Body) → AreWoken (things_made e.stamp e.op) b old [] c new
    → IsFollowed e b old c new
is_followed e old new b c w all others h =
    let things = things_made e.stamp e.op in
    body_more all [] (awaited (or_among others []) new) (awaited others new) c
    (λ x k. none_left (others x) (list_any (λ f. makes f x) new) k)
    (w all others (body_more all [] (awaited others (old ++ e ∷ [])) (awaited (or_among others things) old) b (made_now e old others) h))
