-- A log cut at a stamp.
use Rattle.std.proofs.Common.{◌≡◌, ℕ, zero, suc, ◌<◌, ◌≤◌, ◌-◌, true, false, List, [], ◌∷◌, ◌++◌, take, drop, length, ap, sym, arith}
use Rattle.std.specs.List.{AllByRecursion}
use Rattle.std.specs.Prelude.{slice_get, slice_index_or, IfSome}
use Rattle.zed_types.specs.declared.stamp.Stamp.{Stamp}
use Rattle.zed_types.specs.Stamp.{before, same_stamp}
use Rattle.zed_op.specs.declared.op.Edit.{Edit}
use Rattle.zed_op.specs.Set.{IsRising}
use Rattle.zed_history.specs.Finding.{AllAbove, AllBelow, AllFrom}
use Rattle.zed_types.proofs.StampOrder.{before_other_after}
use Rattle.zed_history.proofs.Spots.{AllBelow-take, above-later}

from-trans : (a b c : Stamp) → before a b ≡ true → before a c ≡ false → before b c ≡ false
from-trans a b c p q = grind (arith)

from-later : (s t : Stamp) (es : List Edit) → before t s ≡ false → AllByRecursion (λ f. before t f.stamp ≡ true) es → AllFrom s es
from-later s t [] n a = tt
from-later s t (e ∷ es) n a = (from-trans t e.stamp s a.0 n, from-later s t es n a.1)

pub rising-drop : (es : List Edit) (i : ℕ) → IsRising es → IsRising (drop i es)
rising-drop es zero r = r
rising-drop [] (suc i) r = tt
rising-drop (e ∷ es) (suc i) r = rising-drop es i r.1

-- from an edit on that is not before a stamp, no edit of a rising log is
pub from-drop : (s : Stamp) (es : List Edit) (i : ℕ) → IsRising es → IfSome (slice_get es i) (λ f. before f.stamp s ≡ false)
    → AllFrom s (drop i es)
from-drop s [] zero r h = tt
from-drop s [] (suc i) r h = tt
from-drop s (e ∷ es) zero r h = (h, from-later s e.stamp es h r.0)
from-drop s (e ∷ es) (suc i) r h = from-drop s es i r.1 h

pub below-take : (s : Stamp) (es : List Edit) (i : ℕ) → IsRising es → (0 < i → IfSome (slice_get es (i - 1)) (λ f. before f.stamp s ≡ true))
    → i ≤ length es
    → AllBelow s (take i es)
below-take s es zero r h l = tt
below-take s es (suc i) r h l =
    let q : suc i - 1 ≡ i = omega arith in
    AllBelow-take s es i r (rw q at (h (omega arith))) (omega arith)

-- a rising log from a stamp on that doesn't begin with it is above it
pub above-rising : (s : Stamp) (es : List Edit) → IsRising es → AllFrom s es → IfSome (slice_get es 0) (λ f. same_stamp s f.stamp ≡ false)
    → AllAbove s es
above-rising s [] r a h = tt
above-rising s (e ∷ es) r a h =
    let b = before_other_after e.stamp s a.0 h in
    (b, above-later s e.stamp es b r.0)

-- an element at its place, and what is behind it
pub drop-item : (es : List Edit) (i : ℕ) (x : Edit) → i < length es → x ≡ slice_index_or es i x → drop i es ≡ x ∷ drop (suc i) es
drop-item [] i x l h = absurd (omega arith)
drop-item (e ∷ es) zero x l h = ap (λ y. y ∷ es) (sym h)
drop-item (e ∷ es) (suc i) x l h = drop-item es i x (omega arith) h

pub take-item : (es : List Edit) (i : ℕ) (x : Edit) → i < length es → x ≡ slice_index_or es i x → take (suc i) es ≡ take i es ++ x ∷ []
take-item [] i x l h = absurd (omega arith)
take-item (e ∷ es) zero x l h = ap (λ y. y ∷ []) (sym h)
take-item (e ∷ es) (suc i) x l h = ap (λ ys. e ∷ ys) (take-item es i x (omega arith) h)
