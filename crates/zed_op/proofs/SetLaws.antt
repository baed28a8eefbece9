-- The laws of sets of edits.
use Rattle.std.proofs.Common.{◌≡◌, Bool, true, false, cond, List, [], ◌∷◌, ◌++◌, refl, ap, sym, subst, append_assoc, append-nil, arith, ◌∙◌}
use Rattle.std.specs.List.{Contains, AllByRecursion}
use Rattle.std.proofs.lemmas.List.Elements.{Contains-append_left, Contains-append_right, Contains-append_cases}
use mathlib.Core.Logic.{inl, inr}
use Rattle.zed_types.specs.Stamp.{before, same_stamp}
use Rattle.zed_op.specs.declared.op.Edit.{Edit}
use Rattle.zed_op.specs.Fit.{Fits}
use Rattle.zed_op.specs.Set.{Agrees, with_edit, union, set_of}
use Rattle.zed_op.specs.SetLaws.{HaveTheSame, EditKeepsRising, UnionKeepsRising, SetIsRising, RisingAgrees, RisingIsItsEdits, RisingIsItsSet, SetHasItsEdits, SetIsOfAnyOrder, SetGrowsByEdits, EditIsAdded, EditAgrees, LatestGoesLast, UnionAgrees, EditThereIsNothing, EditHasItsPlace, UnionHasBoth, UnionCommutes, UnionAssociates, UnionOfItsOwn, UnionOfSets, EditKeepsFit, UnionKeepsFit, SetKeepsFit}
use Rattle.zed_types.proofs.StampOrder.{before_asym}
use Rattle.zed_op.proofs.Sets.{Member-from, Member-to, with_edit-rising, union-rising, union-members, union-keeps, union-adds, AgreeWith, rising-agree, rising-same}

pub edit_keeps_rising : EditKeepsRising
edit_keeps_rising e es r = with_edit-rising e es r

pub union_keeps_rising : UnionKeepsRising
union_keeps_rising es fs r = union-rising es fs r

pub set_is_rising : SetIsRising
set_is_rising es = union-rising [] es tt

pub rising_agrees : RisingAgrees
rising_agrees es r e f m n s = rising-agree es r e f (Member-from e es m) (Member-from f es n) s

pub rising_is_its_edits : RisingIsItsEdits
rising_is_its_edits es fs r s h =
    rising-same es fs r s (λ e m. Member-from e fs ((h e).0 (Member-to e es m))) (λ e m. Member-from e es ((h e).1 (Member-to e fs m)))

-- lists that agree with one another
pub agree_left : (es fs : List Edit) → Agrees (es ++ fs) → Agrees es
agree_left es fs a e f m n s = a e f (Contains-append_left es fs e m) (Contains-append_left es fs f n) s

agree_right : (es fs : List Edit) → Agrees (es ++ fs) → Agrees fs
agree_right es fs a e f m n s = a e f (Contains-append_right es fs e m) (Contains-append_right es fs f n) s

agree_across : (es fs : List Edit) → Agrees (es ++ fs) → AgreeWith es fs
agree_across es fs a e f m n s =
    a e f (Contains-append_left es fs e (Member-to e es m)) (Contains-append_right es fs f (Member-to f fs n)) s

agree_within : (es : List Edit) → Agrees es → AgreeWith es es
agree_within es a e f m n s = a e f (Member-to e es m) (Member-to f es n) s

same_agree : (es fs : List Edit) → HaveTheSame es fs → Agrees es → Agrees fs
same_agree es fs h a e f m n s = a e f ((h e).1 m) ((h f).1 n) s

same_back : (es fs : List Edit) → HaveTheSame es fs → HaveTheSame fs es
same_back es fs h e = ((h e).1, (h e).0)

same_then : (es fs gs : List Edit) → HaveTheSame es fs → HaveTheSame fs gs → HaveTheSame es gs
same_then es fs gs h k e = (λ m. (k e).0 ((h e).0 m), λ m. (h e).1 ((k e).1 m))

pub union_has_both : UnionHasBoth
union_has_both es fs a e = (there, back)
  where
    there : Contains (union es fs) e → Contains (es ++ fs) e
    there m =
        elim (union-members e es fs (Member-from e (union es fs) m)) [
          | inl k ↦ Contains-append_left es fs e (Member-to e es k)
          | inr k ↦ Contains-append_right es fs e (Member-to e fs k)
        ]

    back : Contains (es ++ fs) e → Contains (union es fs) e
    back m =
        elim (Contains-append_cases es fs e m) [
          | inl k ↦ Member-to e (union es fs) (union-keeps e es fs (Member-from e es k))
          | inr k ↦ Member-to e (union es fs) (union-adds e es fs (agree_across es fs a) (agree_within fs (agree_right es fs a)) (Member-from e fs k))
        ]

pub set_has_its_edits : SetHasItsEdits
set_has_its_edits es a = union_has_both [] es a

pub set_is_of_any_order : SetIsOfAnyOrder
set_is_of_any_order es fs a h =
    let b : Agrees fs = same_agree es fs h a in
    let k : HaveTheSame (set_of es) fs = same_then (set_of es) es fs (set_has_its_edits es a) h in
    let l : HaveTheSame (set_of es) (set_of fs) =
    same_then (set_of es) fs (set_of fs) k (same_back (set_of fs) fs (set_has_its_edits fs b)) in
    rising_is_its_edits (set_of es) (set_of fs) (set_is_rising es) (set_is_rising fs) l

pub rising_is_its_set : RisingIsItsSet
rising_is_its_set es r = rising_is_its_edits (set_of es) es (set_is_rising es) r (set_has_its_edits es (rising_agrees es r))

union-append : (es fs gs : List Edit) → union es (fs ++ gs) ≡ union (union es fs) gs
union-append es [] gs = refl
union-append es (f ∷ fs) gs = union-append (with_edit f es) fs gs

pub set_grows_by_edits : SetGrowsByEdits
set_grows_by_edits es e = union-append [] es (e ∷ [])

pub edit_is_added : EditIsAdded
edit_is_added e es a = union_has_both es (e ∷ []) a

pub union_of_its_own : UnionOfItsOwn
union_of_its_own es fs r h =
    rising_is_its_edits (union es fs) es (union-rising es fs r) r (λ e. (there e, λ m. Member-to e (union es fs) (union-keeps e es fs (Member-from e es m))))
  where
    there : (e : Edit) → Contains (union es fs) e → Contains es e
    there e m =
        elim (union-members e es fs (Member-from e (union es fs) m)) [
          | inl k ↦ Member-to e es k
          | inr k ↦ h e (Member-to e fs k)
        ]

pub edit_there_is_nothing : EditThereIsNothing
edit_there_is_nothing e es r m = union_of_its_own es (e ∷ []) r only
  where
    only : (f : Edit) → Contains (e ∷ []) f → Contains es f
    only f k = elim (Member-from f (e ∷ []) k) [ inl q ↦ subst (Contains es) q m | inr n ↦ absurd n ]

pub edit_has_its_place : EditHasItsPlace
edit_has_its_place e [] [] l h = refl
edit_has_its_place e [] (f ∷ high) l h = rw h.0
edit_has_its_place e (f ∷ low) high l h =
    let b : before e.stamp f.stamp ≡ false = before_asym f.stamp e.stamp l.0 in
    let d : same_stamp e.stamp f.stamp ≡ false = apart in
    rw (b, d) (ap (λ rest. f ∷ rest) (edit_has_its_place e low high l.1 h))
  where
    apart : same_stamp e.stamp f.stamp ≡ false
    apart = grind (arith, l.0)

same_append : (xs es ys fs : List Edit) → HaveTheSame xs es → HaveTheSame ys fs → HaveTheSame (xs ++ ys) (es ++ fs)
same_append xs es ys fs h k e = (there, back)
  where
    there : Contains (xs ++ ys) e → Contains (es ++ fs) e
    there m =
        elim (Contains-append_cases xs ys e m) [
          | inl n ↦ Contains-append_left es fs e ((h e).0 n)
          | inr n ↦ Contains-append_right es fs e ((k e).0 n)
        ]

    back : Contains (es ++ fs) e → Contains (xs ++ ys) e
    back m =
        elim (Contains-append_cases es fs e m) [
          | inl n ↦ Contains-append_left xs ys e ((h e).1 n)
          | inr n ↦ Contains-append_right xs ys e ((k e).1 n)
        ]

same_itself : (es : List Edit) → HaveTheSame es es
same_itself es e = (λ m. m, λ m. m)

same_turned : (es fs : List Edit) → HaveTheSame (es ++ fs) (fs ++ es)
same_turned es fs e = (turn es fs, turn fs es)
  where
    turn : (xs ys : List Edit) → Contains (xs ++ ys) e → Contains (ys ++ xs) e
    turn xs ys m =
        elim (Contains-append_cases xs ys e m) [
          | inl n ↦ Contains-append_right ys xs e n
          | inr n ↦ Contains-append_left ys xs e n
        ]

-- lists that have the edits of two that agree join to those
joined : (xs es ys fs : List Edit) → HaveTheSame xs es → HaveTheSame ys fs → Agrees (es ++ fs) → HaveTheSame (union xs ys) (es ++ fs)
joined xs es ys fs h k a =
    let l : HaveTheSame (xs ++ ys) (es ++ fs) = same_append xs es ys fs h k in
    let b : Agrees (xs ++ ys) = same_agree (es ++ fs) (xs ++ ys) (same_back (xs ++ ys) (es ++ fs) l) a in
    same_then (union xs ys) (xs ++ ys) (es ++ fs) (union_has_both xs ys b) l

pub union_commutes : UnionCommutes
union_commutes es fs r s a =
    let t : HaveTheSame (fs ++ es) (es ++ fs) = same_turned fs es in
    let b : Agrees (fs ++ es) = same_agree (es ++ fs) (fs ++ es) (same_turned es fs) a in
    let k : HaveTheSame (union fs es) (es ++ fs) = same_then (union fs es) (fs ++ es) (es ++ fs) (union_has_both fs es b) t in
    let l : HaveTheSame (union es fs) (union fs es) =
    same_then (union es fs) (es ++ fs) (union fs es) (union_has_both es fs a) (same_back (union fs es) (es ++ fs) k) in
    rising_is_its_edits (union es fs) (union fs es) (union-rising es fs r) (union-rising fs es s) l

pub union_associates : UnionAssociates
union_associates es fs gs r a =
    let b : Agrees ((es ++ fs) ++ gs) = subst Agrees (sym (append_assoc es fs gs)) a in
    let left : HaveTheSame (union (union es fs) gs) ((es ++ fs) ++ gs) =
    joined (union es fs) (es ++ fs) gs gs (union_has_both es fs (agree_left (es ++ fs) gs b)) (same_itself gs) b in
    let left' : HaveTheSame (union (union es fs) gs) (es ++ (fs ++ gs)) =
    subst (HaveTheSame (union (union es fs) gs)) (append_assoc es fs gs) left in
    let right : HaveTheSame (union es (union fs gs)) (es ++ (fs ++ gs)) =
    joined es es (union fs gs) (fs ++ gs) (same_itself es) (union_has_both fs gs (agree_right es (fs ++ gs) a)) a in
    let l : HaveTheSame (union (union es fs) gs) (union es (union fs gs)) = same_then (union (union es fs) gs) (es ++ (fs ++ gs)) (union es (union fs gs)) left' (same_back (union es (union fs gs)) (es ++ (fs ++ gs)) right) in
    rising_is_its_edits (union (union es fs) gs) (union es (union fs gs)) (union-rising (union es fs) gs (union-rising es fs r)) (union-rising es (union fs gs) r) l

pub union_of_sets : UnionOfSets
union_of_sets es fs a =
    let k : HaveTheSame (union (set_of es) (set_of fs)) (es ++ fs) =
    joined (set_of es) es (set_of fs) fs (set_has_its_edits es (agree_left es fs a)) (set_has_its_edits fs (agree_right es fs a)) a in
    let l : HaveTheSame (union (set_of es) (set_of fs)) (set_of (es ++ fs)) = same_then (union (set_of es) (set_of fs)) (es ++ fs) (set_of (es ++ fs)) k (same_back (set_of (es ++ fs)) (es ++ fs) (set_has_its_edits (es ++ fs) a)) in
    rising_is_its_edits (union (set_of es) (set_of fs)) (set_of (es ++ fs)) (union-rising (set_of es) (set_of fs) (set_is_rising es)) (set_is_rising (es ++ fs)) l

-- what holds of each edit of a set and of one more holds of each edit of the set with it
pub each-with_edit : (P : Edit → Type 0) (e : Edit) (es : List Edit) → P e → AllByRecursion P es → AllByRecursion P (with_edit e es)
each-with_edit P e [] f h = (f, tt)
each-with_edit P e (x ∷ xs) f h = go (before e.stamp x.stamp) (same_stamp e.stamp x.stamp) (each-with_edit P e xs f h.1)
  where
    go : (c d : Bool) → AllByRecursion P (with_edit e xs) → AllByRecursion P (cond c (e ∷ x ∷ xs) (cond d (x ∷ xs) (x ∷ with_edit e xs)))
    go true d more = (f, h)
    go false true more = h
    go false false more = (h.0, more)

each-union : (P : Edit → Type 0) (es fs : List Edit) → AllByRecursion P es → AllByRecursion P fs → AllByRecursion P (union es fs)
each-union P es [] h k = h
each-union P es (f ∷ fs) h k = each-union P (with_edit f es) fs (each-with_edit P f es k.0 h) k.1

-- what holds of each edit of a list holds of each edit of its set
pub each-set : (P : Edit → Type 0) (es : List Edit) → AllByRecursion P es → AllByRecursion P (set_of es)
each-set P es h = each-union P [] es tt h

pub edit_keeps_fit : EditKeepsFit
edit_keeps_fit e es f h = each-with_edit Fits e es f h

pub union_keeps_fit : UnionKeepsFit
union_keeps_fit es fs h k = each-union Fits es fs h k

pub set_keeps_fit : SetKeepsFit
set_keeps_fit es h = each-set Fits es h

pub union_agrees : UnionAgrees
union_agrees es fs r s h e f m n q =
    elim (Contains-append_cases es fs e m) [
      | inl k ↦ elim (Contains-append_cases es fs f n) [
        | inl l ↦ rising_agrees es r e f k l q
        | inr l ↦ h e f k l q
      ]
      | inr k ↦ elim (Contains-append_cases es fs f n) [
        | inl l ↦ sym (h f e l k (sym q))
        | inr l ↦ rising_agrees fs s e f k l q
      ]
    ]

pub edit_agrees : EditAgrees
edit_agrees e es r h = union_agrees es (e ∷ []) r (tt, tt) only
  where
    only : (f g : Edit) → Contains es f → Contains (e ∷ []) g → f.stamp ≡ g.stamp → f ≡ g
    only f g m n q =
        elim (Member-from g (e ∷ []) n) [
          | inl i ↦ (let k = h f m (q ∙ ap (λ x. x.stamp) (sym i)) in k ∙ i)
          | inr k ↦ absurd k
        ]

pub latest_goes_last : LatestGoesLast
latest_goes_last e es h =
    let k = edit_has_its_place e es [] h tt in
    let n = append-nil es in
    sym (ap (with_edit e) n) ∙ k
