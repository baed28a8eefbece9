-- The greatest time of a rising log is that of its last edit.
use Rattle.std.proofs.Common.{◌≡◌, ℕ, zero, suc, ◌+◌, ◌<◌, ◌≤◌, true, List, [], ◌∷◌, length, arith}
use Rattle.std.specs.Prelude.{slice_index_or}
use Rattle.std.specs.List.{AllByRecursion}
use Rattle.zed_types.specs.declared.stamp.Stamp.{Stamp}
use Rattle.zed_types.specs.Stamp.{before}
use Rattle.zed_types.proofs.StampOrder.{before_later}
use Rattle.zed_op.specs.declared.op.Edit.{Edit}
use Rattle.zed_op.specs.Set.{IsRising}
use Rattle.zed_history.specs.Clock.{greatest_time}
use Rattle.zed_history.specs.Finding.{AllBelow}

before-time : (a b : Stamp) → before a b ≡ true → a.time ≤ b.time
before-time a b h = grind (arith)

first-least : (x : Edit) (es : List Edit) → AllByRecursion (λ f. before x.stamp f.stamp ≡ true) es → 0 < length es
    → x.stamp.time ≤ greatest_time es
first-least x [] a l = absurd (omega arith)
first-least x (e ∷ es) a l = let h = before-time x.stamp e.stamp a.0 in omega arith

pub greatest-last : (es : List Edit) (i : ℕ) (x : Edit) → IsRising es → i + 1 ≡ length es → x ≡ slice_index_or es i x
    → greatest_time es ≡ x.stamp.time
greatest-last [] i x r l h = absurd (omega arith)
greatest-last (y ∷ []) zero x r l h = rw (← h) (omega arith)
greatest-last (y ∷ []) (suc i) x r l h = absurd (omega arith)
greatest-last (y ∷ z ∷ zs) zero x r l h = absurd (omega arith)
greatest-last (y ∷ z ∷ zs) (suc i) x r l h =
    let more : greatest_time (z ∷ zs) ≡ x.stamp.time = greatest-last (z ∷ zs) i x r.1 (omega arith) h in
    let least = first-least y (z ∷ zs) r.0 (omega arith) in
    omega arith

-- a stamp of a later time than all is after all
pub later-all : (s : Stamp) (es : List Edit) → greatest_time es < s.time → AllBelow s es
later-all s [] h = tt
later-all s (e ∷ es) h = (before_later e.stamp s (omega arith), later-all s es (omega arith))
