-- Copies of edits of another log, delivered from the first on.
use Rattle.std.proofs.Common.{◌≡◌, ◌∙◌, ◌<◌, ◌⊎◌, ℕ, zero, suc, Bool, true, false, cond, List, [], ◌∷◌, ◌++◌, Option, Some, None, drop, length, take, inl, inr, refl, ap, sym, subst, arith}
use Rattle.std.specs.List.{AllByRecursion}
use Rattle.std.specs.Option.{is_none, is_some}
use Rattle.std.specs.Prelude.{◌≢◌, IfNone, IfSome}
use denote.Ref.{Bor}
use Rattle.zed_types.specs.declared.stamp.Stamp.{Stamp}
use Rattle.zed_types.specs.Stamp.{before, same_stamp}
use Rattle.zed_types.proofs.StampOrder.{before_asym, before_irrefl}
use Rattle.zed_op.specs.declared.op.Edit.{Edit}
use Rattle.zed_op.specs.Set.{IsRising, union, with_edit}
use Rattle.zed_delivery.specs.Taking.{IsApart}
use Rattle.zed_history.specs.Clash.{new_to}
use Rattle.zed_history.specs.Finding.{edit_with}
use Rattle.zed_history.proofs.Clashing.{edit_with-stands}
use Rattle.zed_document.specs.Merge.{below}
use Rattle.zed_document.specs.Replica.{Replica}
use Rattle.zed_document.proofs.Bodies.{apart}

-- ---- one edit

-- where an edit of a stamp changes nothing, no edit of it does
pub same_nothing : (e f : Edit) (es : List Edit) → f.stamp ≡ e.stamp → with_edit f es ≡ es → with_edit e es ≡ es
same_nothing e f [] same h = absurd (let bad : f ∷ [] ≡ [] = h in cc)
same_nothing e f (x ∷ xs) same h = go (before e.stamp x.stamp) (same_stamp e.stamp x.stamp) was (same_nothing e f xs same)
  where
    was : cond (before e.stamp x.stamp) (f ∷ x ∷ xs) (cond (same_stamp e.stamp x.stamp) (x ∷ xs) (x ∷ with_edit f xs)) ≡ x ∷ xs
    was = subst (λ (s : Stamp). cond (before s x.stamp) (f ∷ x ∷ xs) (cond (same_stamp s x.stamp) (x ∷ xs) (x ∷ with_edit f xs)) ≡ x ∷ xs) same h

    go : (b c : Bool) → cond b (f ∷ x ∷ xs) (cond c (x ∷ xs) (x ∷ with_edit f xs)) ≡ x ∷ xs → (with_edit f xs ≡ xs → with_edit e xs ≡ xs)
        → cond b (e ∷ x ∷ xs) (cond c (x ∷ xs) (x ∷ with_edit e xs)) ≡ x ∷ xs
    go true c q more = absurd (let long : suc (suc (length xs)) ≡ suc (length xs) = ap length q in omega (arith, long))
    go false true q more = refl
    go false false q more = ap (λ ys. x ∷ ys) (more (let tails : with_edit f xs ≡ xs = cc in tails))

pub found_nothing : (e : Edit) (r : Option (Bor Edit)) (es : List Edit) → is_some r ≡ true
    → IfSome r (λ f. edit_with e.stamp es ≡ Some f.now) → IfSome r (λ f. with_edit f.now es ≡ es)
    → with_edit e es ≡ es
found_nothing e None es is some known = absurd (cc)
found_nothing e (Some f) es is some known = same_nothing e f.now es (edit_with-stands e.stamp es f.now some).1 known

pub found_none : (s : Stamp) (r : Option (Bor Edit)) (es : List Edit) → is_some r ≡ false → IfNone r (edit_with s es ≡ None)
    → edit_with s es ≡ None
found_none s None es is none = none
found_none s (Some f) es is none = absurd (cc)

-- one that is new is one more
pub one_longer : (e : Edit) (es : List Edit) → edit_with e.stamp es ≡ None → length es < length (with_edit e es)
one_longer e es new = go es (apart e es new)
  where
    go : (es : List Edit) → IsApart e es → length es < length (with_edit e es)
    go [] a = omega arith
    go (f ∷ fs) a = by (before e.stamp f.stamp) (go fs a.1)
      where
        by : (b : Bool) → length fs < length (with_edit e fs)
            → suc (length fs) < length (cond b (e ∷ f ∷ fs) (cond (same_stamp e.stamp f.stamp) (f ∷ fs) (f ∷ with_edit e fs)))
        by true more = omega arith
        by false more = rw a.0 (omega (arith, more))

none_before : (s : Stamp) (f : Edit) (es : List Edit) → edit_with s (with_edit f es) ≡ None → edit_with s es ≡ None
none_before s f [] h = refl
none_before s f (x ∷ xs) h = go (before f.stamp x.stamp) (same_stamp f.stamp x.stamp) h (none_before s f xs)
  where
    go : (b c : Bool) → edit_with s (cond b (f ∷ x ∷ xs) (cond c (x ∷ xs) (x ∷ with_edit f xs))) ≡ None
        → (edit_with s (with_edit f xs) ≡ None → edit_with s xs ≡ None)
        → edit_with s (x ∷ xs) ≡ None
    go true c h more = behind (same_stamp f.stamp s) h
      where
        behind : (t : Bool) → cond t (Some f) (edit_with s (x ∷ xs)) ≡ None → edit_with s (x ∷ xs) ≡ None
        behind true h = absurd (let bad : Some f ≡ None = h in cc)
        behind false h = h
    go false true h more = h
    go false false h more = here (same_stamp x.stamp s) h
      where
        here : (t : Bool) → cond t (Some x) (edit_with s (with_edit f xs)) ≡ None → cond t (Some x) (edit_with s xs) ≡ None
        here true h = h
        here false h = more h

-- ---- many

-- one edit more joins a union
pub union_last : (es fs : List Edit) (e : Edit) → union es (fs ++ e ∷ []) ≡ with_edit e (union es fs)
union_last es [] e = refl
union_last es (f ∷ fs) e = union_last (with_edit f es) fs e

-- what is new to a union is new to what it began with
pub none_first : (s : Stamp) (es fs : List Edit) → edit_with s (union es fs) ≡ None → edit_with s es ≡ None
none_first s es [] h = h
none_first s es (f ∷ fs) h = none_before s f es (none_first s (with_edit f es) fs h)

module _ (P : Edit → Type 0) where
  at_front : (xs rest : List Edit) (i : ℕ) (e : Edit) → AllByRecursion P xs → drop i xs ≡ e ∷ rest → P e
  at_front [] rest zero e a cut = absurd (let bad : [] ≡ e ∷ rest = cut in cc)
  at_front [] rest (suc i) e a cut = absurd (let bad : [] ≡ e ∷ rest = cut in cc)
  at_front (x ∷ xs) rest zero e a cut = subst P (let first : x ≡ e = cc in first) a.0
  at_front (x ∷ xs) rest (suc i) e a cut = at_front xs rest i e a.1 cut

none_below : (s : Stamp) (es : List Edit) → AllByRecursion (λ f. before s f.stamp ≡ true) es → below s es ≡ []
none_below s [] a = refl
none_below s (f ∷ fs) a = rw (before_asym s f.stamp a.0) (none_below s fs a.1)

-- the edits in front of one are those below its stamp
pub front_below : (es rest : List Edit) (i : ℕ) (e : Edit) → IsRising es → drop i es ≡ e ∷ rest → take i es ≡ below e.stamp es
front_below [] rest zero e r cut = refl
front_below [] rest (suc i) e r cut = refl
front_below (x ∷ xs) rest zero e r cut =
    let same : x ≡ e = cc in
    sym (subst (λ (y : Edit). below y.stamp (x ∷ xs) ≡ []) same (rw (before_irrefl x.stamp) (none_below x.stamp xs r.0)))
front_below (x ∷ xs) rest (suc i) e r cut =
    let first : before x.stamp e.stamp ≡ true = at_front (λ (f : Edit). before x.stamp f.stamp ≡ true) xs rest i e r.0 cut in
    rw first (ap (λ ys. x ∷ ys) (front_below xs rest i e r.1 cut))

-- one of the edits is new to a log
pub one_new : (own es rest : List Edit) (i : ℕ) (e : Edit) → drop i es ≡ e ∷ rest → edit_with e.stamp own ≡ None → new_to own es ≢ []
one_new own [] rest zero e cut new = absurd (let bad : [] ≡ e ∷ rest = cut in cc)
one_new own [] rest (suc i) e cut new = absurd (let bad : [] ≡ e ∷ rest = cut in cc)
one_new own (x ∷ xs) rest zero e cut new =
    let same : x ≡ e = cc in
    let here : edit_with x.stamp own ≡ None = ap (λ (y : Edit). edit_with y.stamp own) same ∙ new in
    λ none. let bad : x ∷ new_to own xs ≡ [] = rw here at none in cc
one_new own (x ∷ xs) rest (suc i) e cut new = go (is_none (edit_with x.stamp own)) (one_new own xs rest i e cut new)
  where
    go : (b : Bool) → new_to own xs ≢ [] → cond b (x ∷ new_to own xs) (new_to own xs) ≢ []
    go true more = λ none. let bad : x ∷ new_to own xs ≡ [] = none in cc
    go false more = more

-- ---- nothing came, or more

abbrev pub HasGrown : Replica → Replica → Type 0
HasGrown old new = (new ≡ old) ⊎ (length old.edits < length new.edits)

pub grown_more : (a b c : Replica) → HasGrown a b → HasGrown b c → HasGrown a c
grown_more a b c (inl same) more = subst (λ (d : Replica). HasGrown d c) same more
grown_more a b c (inr long) (inl same) = inr (subst (λ (d : Replica). length a.edits < length d.edits) (sym same) long)
grown_more a b c (inr long) (inr longer) = inr (omega (arith, long, longer))
