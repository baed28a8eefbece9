-- A log to which edits come in any order.
use Rattle.std.proofs.Common.{◌≡◌, ◌∙◌, ◌-◌, ◌<◌, ◌≤◌, ◌+◌, ℕ, zero, suc, length, take, drop, set, get_or, Bool, true, false, List, [], ◌∷◌, ◌++◌, Some, None, refl, ap, sym, subst, append_assoc, arith}
use Rattle.std.specs.Prelude.{min, slice_get, swap, IfSome}
use Rattle.std.specs.List.{AllByRecursion}
use Rattle.std.proofs.lemmas.List.{drop-set, drop-set-lt, drop_all, length-append, length-set, length-take, take-append-drop, take-set-le, take-take, take_all}
use Rattle.std.proofs.lemmas.List.Edits.{length-swap}
use Rattle.std.specs.Bool.{OnTrue}
use Rattle.zed_types.specs.declared.stamp.Stamp.{Stamp}
use Rattle.zed_types.specs.Stamp.{before, same_stamp}
use Rattle.zed_types.proofs.StampOrder.{same_stamp-itself, same_stamp-true}
use Rattle.zed_op.specs.declared.op.Edit.{Edit}
use Rattle.zed_op.specs.Set.{IsRising, union, with_edit}
use Rattle.zed_op.specs.SetLaws.{EditKeepsRising, RisingIsItsEdits, UnionKeepsRising}
use Rattle.zed_op.proofs.SetLaws.{each-with_edit}
use Rattle.zed_history.specs.Finding.{AllAbove, AllBelow, AreNew, edit_with, first_of}
use Rattle.zed_history.proofs.Lookups.{found-with_edit}
use Rattle.zed_history.proofs.Spots.{above-later, with_edit-between}
use Rattle.zed_history.proofs.Walks.{below-take}

-- ---- one step of joining late edits, from the last one on

-- a union with one more edit at the end
union-append : (es fs : List Edit) (e : Edit) → union es (fs ++ e ∷ []) ≡ with_edit e (union es fs)
union-append es [] e = refl
union-append es (f ∷ fs) e = union-append (with_edit f es) fs e

-- an edit that comes before all of the end goes into the front
with_edit-front : (f : Edit) (low high : List Edit) → AllAbove f.stamp high → with_edit f (low ++ high) ≡ with_edit f low ++ high
with_edit-front f [] [] a = refl
with_edit-front f [] (g ∷ high) a = rw a.0
with_edit-front f (x ∷ low) high a = go (before f.stamp x.stamp) (same_stamp f.stamp x.stamp) refl refl (with_edit-front f low high a)
  where
    go : (p q : Bool) → before f.stamp x.stamp ≡ p → same_stamp f.stamp x.stamp ≡ q → with_edit f (low ++ high) ≡ with_edit f low ++ high
        → with_edit f ((x ∷ low) ++ high) ≡ with_edit f (x ∷ low) ++ high
    go true q hp hq more = rw hp refl
    go false true hp hq more = rw (hp, hq) refl
    go false false hp hq more = rw (hp, hq) (ap (λ zs. x ∷ zs) more)

abbrev AllApart : List Edit → List Edit → Type 0
AllApart fs high = AllByRecursion (λ f. AllAbove f.stamp high) fs

union-front : (low high fs : List Edit) → AllApart fs high → union (low ++ high) fs ≡ union low fs ++ high
union-front low high [] a = refl
union-front low high (f ∷ fs) a = ap (λ es. union es fs) (with_edit-front f low high a.0) ∙ union-front (with_edit f low) high fs a.1

all-apart : (s : Stamp) (fs high : List Edit) → AllBelow s fs → AllAbove s high → AllApart fs high
all-apart s [] high b a = tt
all-apart s (f ∷ fs) high b a = (above-later f.stamp s high b.0 a, all-apart s fs high b.1 a)

below-union : (s : Stamp) (es fs : List Edit) → AllBelow s es → AllBelow s fs → AllBelow s (union es fs)
below-union s es [] a b = a
below-union s es (f ∷ fs) a b = below-union s (with_edit f es) fs (each-with_edit (λ g. before g.stamp s ≡ true) f es b.0 a) b.1

-- the last of the late edits goes between the edits that come before it and those behind it
pub last-joins : (e : Edit) (low high fs : List Edit) → AllBelow e.stamp low → AllAbove e.stamp high → AllBelow e.stamp fs
    → union (low ++ high) (fs ++ e ∷ []) ≡ union low fs ++ e ∷ high
last-joins e low high fs b a c =
    union-append (low ++ high) fs e
    ∙ ap (with_edit e) (union-front low high fs (all-apart e.stamp fs high c a))
    ∙ with_edit-between e (union low fs) high (below-union e.stamp low fs b c) a

-- ---- fronts of logs

before-front : (x : Edit) (xs high : List Edit) → AllAbove x.stamp (xs ++ high) → AllAbove x.stamp xs
before-front x [] high a = tt
before-front x (y ∷ xs) high a = (a.0, before-front x xs high a.1)

pub rising-front : (low high : List Edit) → IsRising (low ++ high) → IsRising low
rising-front [] high r = tt
rising-front (x ∷ low) high r = (before-front x low high r.0, rising-front low high r.1)

pub none-front : (s : Stamp) (low high : List Edit) → edit_with s (low ++ high) ≡ None → edit_with s low ≡ None
none-front s [] high h = refl
none-front s (x ∷ low) high h = go (same_stamp x.stamp s) refl (λ k. none-front s low high k)
  where
    go : (b : Bool) → same_stamp x.stamp s ≡ b → (edit_with s (low ++ high) ≡ None → edit_with s low ≡ None) → edit_with s (x ∷ low) ≡ None
    go true q more = absurd (let bad : Some x ≡ None = rw q at h in cc)
    go false q more = rw q (more (rw q at h))

new-front : (low high fs : List Edit) → AreNew (low ++ high) fs → AreNew low fs
new-front low high [] n = tt
new-front low high (f ∷ fs) n = (none-front f.stamp low high n.0, new-front low high fs n.1)

-- ---- the end of a log

all-below : (s : Stamp) (es : List Edit) → IsRising es → IfSome (slice_get es (length es - 1)) (λ f. before f.stamp s ≡ true)
    → AllBelow s es
all-below s es r h = subst (AllBelow s) (take_all (length es) es (omega arith)) (below-take s es (length es) r (λ _. h) (omega arith))

pub latest : (b : Bool) (s : Stamp) (es : List Edit) (e : Edit) → IsRising es → slice_get es (length es - 1) ≡ Some e → b ≡ before e.stamp s
    → OnTrue b (AllBelow s es)
latest true s es e r at is = all-below s es r (rw at (sym is))
latest false s es e r at is = tt

differs : (s : Stamp) (es : List Edit) (k : ℕ) (e : Edit) → edit_with s es ≡ None → slice_get es k ≡ Some e → same_stamp e.stamp s ≡ false
differs s [] k e none at = absurd (let bad : None ≡ Some e = at in cc)
differs s (x ∷ es) k e none at = go (same_stamp x.stamp s) refl k at (λ j n h. differs s es j e n h)
  where
    go : (b : Bool) → same_stamp x.stamp s ≡ b → (k : ℕ) → slice_get (x ∷ es) k ≡ Some e
        → ((j : ℕ) → edit_with s es ≡ None → slice_get es j ≡ Some e → same_stamp e.stamp s ≡ false) → same_stamp e.stamp s ≡ false
    go true q k at more = absurd (let bad : Some x ≡ None = rw q at none in cc)
    go false q zero at more = let is : x ≡ e = cc in subst (λ (y : Edit). same_stamp y.stamp s ≡ false) is q
    go false q (suc k) at more = more k (rw q at none) at

other_before : (s t : Stamp) → before s t ≡ false → same_stamp t s ≡ false → before t s ≡ true
other_before s t h d = grind (arith)

-- ---- edits of a log moved up, to make room for others

get-is : (es : List Edit) (i : ℕ) (d e : Edit) → slice_get es i ≡ Some e → get_or es i d ≡ e
get-is [] i d e h = absurd (let bad : None ≡ Some e = h in cc)
get-is (x ∷ es) zero d e h = let is : x ≡ e = cc in is
get-is (x ∷ es) (suc i) d e h = get-is es i d e h

get-take : (n : ℕ) (es : List Edit) (i : ℕ) → i < n → slice_get (take n es) i ≡ slice_get es i
get-take zero es i l = absurd (omega arith)
get-take (suc n) [] i l = refl
get-take (suc n) (x ∷ es) zero l = refl
get-take (suc n) (x ∷ es) (suc i) l = get-take n es i (omega arith)

drop-get : (es : List Edit) (i : ℕ) (e : Edit) → slice_get es i ≡ Some e → drop i es ≡ e ∷ drop (suc i) es
drop-get [] i e h = absurd (let bad : None ≡ Some e = h in cc)
drop-get (x ∷ es) zero e h = let is : x ≡ e = cc in ap (λ y. y ∷ es) is
drop-get (x ∷ es) (suc i) e h = drop-get es i e h

item-at : (es : List Edit) (i : ℕ) → i < length es → (e : Edit) × (slice_get es i ≡ Some e)
item-at [] i l = absurd (omega arith)
item-at (x ∷ es) zero l = (x, refl)
item-at (x ∷ es) (suc i) l = item-at es i (omega arith)

take-swap : (n i j : ℕ) (es : List Edit) → n ≤ i → n ≤ j → take n (swap es i j) ≡ take n es
take-swap n i j [] l m = refl
take-swap n i j (x ∷ es) l m =
    take-set-le n (set (x ∷ es) i (get_or (x ∷ es) j x)) j (get_or (x ∷ es) i x) m
    ∙ take-set-le n (x ∷ es) i (get_or (x ∷ es) j x) l

drop-swap : (i j : ℕ) (es : List Edit) (e : Edit) → i ≤ j → j < length es → slice_get es i ≡ Some e
    → drop j (swap es i j) ≡ e ∷ drop (j + 1) es
drop-swap i j [] e l m h = absurd (omega arith)
drop-swap i j (x ∷ es) e l m h =
    let one = length-set (x ∷ es) i (get_or (x ∷ es) j x) in
    drop-set (set (x ∷ es) i (get_or (x ∷ es) j x)) j (get_or (x ∷ es) i x) (omega (arith, one))
    ∙ ap (λ y. y ∷ drop (j + 1) (set (x ∷ es) i (get_or (x ∷ es) j x))) (get-is (x ∷ es) i x e h)
    ∙ ap (λ ys. e ∷ ys) (drop-set-lt (j + 1) (x ∷ es) i (get_or (x ∷ es) j x) (omega arith))

-- the edits of a log from one place up to another stand so many places further up, and all of them come after a stamp
pub record IsUp (s : Stamp) (old log : List Edit) (at place by : ℕ) : Type 0 where
  pub within : at ≤ place
  pub front : take at log ≡ take at old
  pub moved : drop (at + by) log ≡ drop at (take place old) ++ drop (place + by) old
  pub above : AllAbove s (drop at (take place old))
  pub long : length log ≡ length old

pub up-begins : (s : Stamp) (old : List Edit) (place by : ℕ) → IsUp s old old place place by
up-begins s old place by =
    let len = length-take place old in
    let none : drop place (take place old) ≡ [] = drop_all place (take place old) (omega (arith, len)) in
    record { within = omega arith; front = refl; moved = rw none refl; above = rw none tt; long = refl }

pub up-more : (s : Stamp) (old log log' : List Edit) (at next place by : ℕ) → place + by ≤ length old → IsUp s old log at place by
    → at ≡ suc next → IfSome (slice_get log next) (λ e. before s e.stamp ≡ true) → log' ≡ swap log next (next + by)
    → IsUp s old log' next place by
up-more s old log log' at next place by l up is h more = record {
  within = omega (arith, up.within, is);
  front =
      ap (take next) more
      ∙ take-swap next next (next + by) log (omega arith) (omega arith)
      ∙ sym (take-take next (suc next) log (omega arith))
      ∙ ap (take next) front
      ∙ take-take next (suc next) old (omega arith);
  moved = moved;
  above = subst (AllAbove s) (sym tail) (after, subst (λ n. AllAbove s (drop n (take place old))) is up.above);
  long = ap length more ∙ length-swap log next (next + by) ∙ up.long;
}
  where
    item : (e : Edit) × (slice_get log next ≡ Some e)
    item = item-at log next (omega (arith, up.within, up.long, is))

    e : Edit
    e = item.0

    after : before s e.stamp ≡ true
    after = rw item.1 at h

    front : take (suc next) log ≡ take (suc next) old
    front = subst (λ n. take n log ≡ take n old) is up.front

    here : slice_get (take place old) next ≡ Some e
    here =
        get-take place old next (omega (arith, up.within, is))
        ∙ sym (get-take (suc next) old next (omega arith))
        ∙ ap (λ es. slice_get es next) (sym front)
        ∙ get-take (suc next) log next (omega arith)
        ∙ item.1

    tail : drop next (take place old) ≡ e ∷ drop (suc next) (take place old)
    tail = drop-get (take place old) next e here

    on : next + by + 1 ≡ at + by
    on = omega (arith, is)

    moved : drop (next + by) log' ≡ drop next (take place old) ++ drop (place + by) old
    moved =
        ap (drop (next + by)) more
        ∙ drop-swap next (next + by) log e (omega arith) (omega (arith, up.within, up.long, is)) item.1
        ∙ ap (λ n. e ∷ drop n log) on
        ∙ ap (λ es. e ∷ es) up.moved
        ∙ ap (λ n. e ∷ (drop n (take place old) ++ drop (place + by) old)) is
        ∙ ap (λ es. es ++ drop (place + by) old) (sym tail)

pub up-below : (s : Stamp) (old log : List Edit) (at place by : ℕ) → place + by ≤ length old → IsUp s old log at place by
    → IsRising (take place old) → edit_with s (take place old) ≡ None
    → (0 < at → IfSome (slice_get log (at - 1)) (λ e. before s e.stamp ≡ false)) → AllBelow s (take at old)
up-below s old log zero place by l up r none h = tt
up-below s old log (suc k) place by l up r none h =
    subst (AllBelow s) (take-take (suc k) place old up.within)
    (below-take s (take place old) (suc k) r (λ _. rw here below) (omega (arith, up.within, len)))
  where
    len : length (take place old) ≡ min place (length old)
    len = length-take place old

    item : (e : Edit) × (slice_get log k ≡ Some e)
    item = item-at log k (omega (arith, up.within, up.long))

    back : suc k - 1 ≡ k
    back = omega arith

    here : slice_get (take place old) (suc k - 1) ≡ Some item.0
    here =
        ap (slice_get (take place old)) back
        ∙ get-take place old k (omega (arith, up.within))
        ∙ sym (get-take (suc k) old k (omega arith))
        ∙ ap (λ es. slice_get es k) (sym up.front)
        ∙ get-take (suc k) log k (omega arith)
        ∙ item.1

    after : before s item.0.stamp ≡ false
    after = let k = h (omega arith) in rw (back, item.1) at k

    below : before item.0.stamp s ≡ true
    below = other_before s item.0.stamp after (differs s (take place old) (suc k - 1) item.0 none here)

-- ---- edits of new stamps that go in, from the last one on

below-last : (e : Edit) (es : List Edit) → IsRising (es ++ e ∷ []) → AllBelow e.stamp es
below-last e [] r = tt
below-last e (x ∷ es) r = (last x es r.0, below-last e es r.1)
  where
    last : (y : Edit) (ys : List Edit) → AllAbove y.stamp (ys ++ e ∷ []) → before y.stamp e.stamp ≡ true
    last y [] a = a.0
    last y (z ∷ ys) a = last y ys a.1

new-last : (log fs : List Edit) (e : Edit) → AreNew log (fs ++ e ∷ []) → AreNew log fs × (edit_with e.stamp log ≡ None)
new-last log [] e n = (tt, n.0)
new-last log (f ∷ fs) e n = let more = new-last log fs e n.1 in ((n.0, more.0), more.1)

-- what is left in front of a gap in a log and of the edits that go in, with what stands behind the gap, is the whole
pub record IsMoving (whole log edits : List Edit) (place : ℕ) : Type 0 where
  pub within : place + length edits ≤ length log
  pub rising : IsRising (take place log)
  pub edits_rising : IsRising edits
  pub apart : AreNew (take place log) edits
  pub joins : union (take place log) edits ++ drop (place + length edits) log ≡ whole

pub moving-on : (whole log log' log'' edits fs : List Edit) (e : Edit) (place next : ℕ) → IsMoving whole log edits place
    → edits ≡ fs ++ e ∷ [] → IsUp e.stamp log log' next place (length fs + 1)
    → AllBelow e.stamp (take next log) → log'' ≡ set log' (next + length fs) e → IsMoving whole log'' fs next
moving-on whole log log' log'' edits fs e place next was is up below more = record {
  within = omega (arith, was.within, count, up.within, up.long, long);
  rising = subst IsRising (sym front) (rising-front low later (subst IsRising cut was.rising));
  edits_rising = rising-front fs (e ∷ []) rising;
  apart = subst (λ es. AreNew es fs) (sym front) (new-front low later fs (subst (λ es. AreNew es fs) cut still));
  joins = joined;
}
  where
    low : List Edit
    low = take next log

    later : List Edit
    later = drop next (take place log)

    high : List Edit
    high = drop (place + length edits) log

    cut : take place log ≡ low ++ later
    cut = sym (take-append-drop next (take place log)) ∙ ap (λ es. es ++ later) (take-take next place log up.within)

    rising : IsRising (fs ++ e ∷ [])
    rising = subst IsRising is was.edits_rising

    still : AreNew (take place log) fs
    still = (new-last (take place log) fs e (subst (AreNew (take place log)) is was.apart)).0

    count : length edits ≡ length fs + 1
    count = ap length is ∙ length-append fs (e ∷ [])

    long : length log'' ≡ length log'
    long = ap length more ∙ length-set log' (next + length fs) e

    front : take next log'' ≡ low
    front = ap (take next) more ∙ take-set-le next log' (next + length fs) e (omega arith) ∙ up.front

    on : next + length fs + 1 ≡ next + (length fs + 1)
    on = omega arith

    back : drop (next + length fs) log'' ≡ e ∷ (later ++ high)
    back =
        ap (drop (next + length fs)) more
        ∙ drop-set log' (next + length fs) e (omega (arith, was.within, count, up.within, up.long))
        ∙ ap (λ n. e ∷ drop n log') on
        ∙ ap (λ es. e ∷ es) up.moved
        ∙ ap (λ n. e ∷ (later ++ drop (place + n) log)) (sym count)

    step : union (take place log) edits ≡ union low fs ++ e ∷ later
    step =
        ap (λ es. union es edits) cut
        ∙ ap (union (low ++ later)) is
        ∙ last-joins e low later fs below up.above (below-last e fs rising)

    joined : union (take next log'') fs ++ drop (next + length fs) log'' ≡ whole
    joined =
        ap (λ es. union es fs ++ drop (next + length fs) log'') front
        ∙ ap (λ es. union low fs ++ es) back
        ∙ sym (append_assoc (union low fs) (e ∷ later) high)
        ∙ ap (λ es. es ++ high) (sym step)
        ∙ was.joins

-- ---- one more edit

-- the laws of sets that are used
pub record SetsHold : Type 0 where
  pub rises : EditKeepsRising
  pub joins : UnionKeepsRising
  pub known : RisingIsItsEdits

another-stamp : (e f : Edit) → same_stamp f.stamp e.stamp ≡ false → edit_with f.stamp (e ∷ []) ≡ None
another-stamp e f q = go (same_stamp e.stamp f.stamp) refl
  where
    go : (c : Bool) → same_stamp e.stamp f.stamp ≡ c → edit_with f.stamp (e ∷ []) ≡ None
    go true k = absurd (let same : e.stamp ≡ f.stamp = same_stamp-true e.stamp f.stamp k in
        let yes : same_stamp f.stamp e.stamp ≡ true = subst (λ t. same_stamp f.stamp t ≡ true) (sym same) (same_stamp-itself f.stamp) in
        let bad : true ≡ false = sym yes ∙ q in cc)
    go false k = rw k refl

pub still-new : (e : Edit) (log fs : List Edit) → IsRising log → AreNew log fs → edit_with e.stamp fs ≡ None → AreNew (with_edit e log) fs
still-new e log [] r n none = tt
still-new e log (f ∷ fs) r n none = go (same_stamp f.stamp e.stamp) refl (λ k. still-new e log fs r n.1 k)
  where
    go : (b : Bool) → same_stamp f.stamp e.stamp ≡ b → (edit_with e.stamp fs ≡ None → AreNew (with_edit e log) fs)
        → AreNew (with_edit e log) (f ∷ fs)
    go true q more = absurd (let bad : Some f ≡ None = rw q at none in cc)
    go false q more = (
      found-with_edit f.stamp e log r ∙ ap (λ o. first_of o (edit_with f.stamp (e ∷ []))) n.0 ∙ another-stamp e f q,
      more (rw q at none),
    )
