-- What is found in a log by its stamp, and that a rising log is known by what is found in it.
use Rattle.std.proofs.Common.{◌≡◌, Bool, true, false, cond, List, [], ◌∷◌, Some, None, refl, ap, sym, subst, ◌∙◌}
use Rattle.std.specs.Prelude.{Option, Contains}
use Rattle.zed_types.specs.declared.stamp.Stamp.{Stamp}
use Rattle.zed_types.specs.Stamp.{before, same_stamp}
use Rattle.zed_op.specs.declared.op.Edit.{Edit}
use Rattle.zed_op.specs.Set.{IsRising, with_edit, union}
use Rattle.zed_op.specs.SetLaws.{EditKeepsRising, RisingIsItsEdits}
use Rattle.zed_history.specs.Finding.{AllAbove, edit_with, first_of}
use Rattle.zed_history.proofs.Clashing.{edit_with-there, edit_with-stands}
use Rattle.zed_history.proofs.Spots.{above-later, edit_with-none}
use Rattle.zed_types.proofs.StampOrder.{same_stamp-true}

abbrev Found : Type 0
Found = Option Edit

pub first-none : (o : Found) → first_of o None ≡ o
first-none None = refl
first-none (Some x) = refl

pub first-assoc : (a b c : Found) → first_of (first_of a b) c ≡ first_of a (first_of b c)
first-assoc None b c = refl
first-assoc (Some x) b c = refl

-- one more edit is found where there is none of its stamp
pub found-with_edit : (s : Stamp) (e : Edit) (es : List Edit) → IsRising es
    → edit_with s (with_edit e es) ≡ first_of (edit_with s es) (edit_with s (e ∷ []))
found-with_edit s e [] r = refl
found-with_edit s e (f ∷ fs) r =
    go (before e.stamp f.stamp) (same_stamp e.stamp f.stamp) (same_stamp e.stamp s) (same_stamp f.stamp s) refl refl refl refl (found-with_edit s e fs r.1)
  where
    go : (p q t u : Bool) → before e.stamp f.stamp ≡ p → same_stamp e.stamp f.stamp ≡ q → same_stamp e.stamp s ≡ t
        → same_stamp f.stamp s ≡ u
        → edit_with s (with_edit e fs) ≡ first_of (edit_with s fs) (edit_with s (e ∷ []))
        → edit_with s (with_edit e (f ∷ fs)) ≡ first_of (edit_with s (f ∷ fs)) (edit_with s (e ∷ []))
    go true q true u hp hq ht hu more =
        let above : AllAbove e.stamp (f ∷ fs) = (hp, above-later e.stamp f.stamp fs hp r.0) in
        let none : edit_with s (f ∷ fs) ≡ None =
        subst (λ k. edit_with k (f ∷ fs) ≡ None) (same_stamp-true e.stamp s ht) (edit_with-none e.stamp (f ∷ fs) above) in
        rw (hp, none, ht) refl
    go true q false u hp hq ht hu more = rw (hp, ht) (sym (first-none (edit_with s (f ∷ fs))))
    go false true true u hp hq ht hu more =
        let same : same_stamp f.stamp s ≡ true = subst (λ k. same_stamp k s ≡ true) (same_stamp-true e.stamp f.stamp hq) ht in
        rw (hp, hq, same) refl
    go false true false u hp hq ht hu more = rw (hp, hq, ht) (sym (first-none (edit_with s (f ∷ fs))))
    go false false t true hp hq ht hu more = rw (hp, hq, hu) refl
    go false false t false hp hq ht hu more = rw (hp, hq, hu) more

-- of two logs in one the first has its own where both have a stamp
pub found-union : EditKeepsRising → (s : Stamp) (es fs : List Edit) → IsRising es
    → edit_with s (union es fs) ≡ first_of (edit_with s es) (edit_with s fs)
found-union rises s es [] r = sym (first-none (edit_with s es))
found-union rises s es (f ∷ fs) r =
    found-union rises s (with_edit f es) fs (rises f es r)
    ∙ ap (λ o. first_of o (edit_with s fs)) (found-with_edit s f es r)
    ∙ first-assoc (edit_with s es) (edit_with s (f ∷ [])) (edit_with s fs)
    ∙ ap (first_of (edit_with s es)) (head (same_stamp f.stamp s))
  where
    head : (b : Bool) → first_of (cond b (Some f) None) (edit_with s fs) ≡ cond b (Some f) (edit_with s fs)
    head true = refl
    head false = refl

there_too : (es fs : List Edit) → IsRising es → ((s : Stamp) → edit_with s es ≡ edit_with s fs) → (e : Edit) → Contains es e → Contains fs e
there_too es fs r same e m = (edit_with-stands e.stamp fs e (sym (same e.stamp) ∙ edit_with-there es e r m)).0

-- rising logs in which the same is found are equal
pub rising-found : RisingIsItsEdits → (es fs : List Edit) → IsRising es → IsRising fs → ((s : Stamp) → edit_with s es ≡ edit_with s fs)
    → es ≡ fs
rising-found known es fs r q same = known es fs r q (λ e. (there_too es fs r same e, there_too fs es q (λ s. sym (same s)) e))
