-- The least number that passes a test.
use borrow.Author.Tests.{ltb-true, ltb-false}
use Rattle.std.proofs.Common.{◌≡◌, ℕ, zero, suc, ◌<◌, ◌≤◌, Bool, true, false, Some, None, cond, refl, arith, ap, subst, nat_lt}
use Rattle.zed_oop_syntax.specs.Label.{least, or_else}

-- a number that passes where none below does is the least
pub least_is : (test : ℕ → Bool) (i n : ℕ) → least test i ≡ None → test i ≡ true → i < n → least test n ≡ Some i
least_is test i zero none passes h = absurd (omega arith)
least_is test i (suc n) none passes h = by_place (nat_lt i n) refl (least_is test i n none passes)
  where
    by_place : (b : Bool) → nat_lt i n ≡ b → (i < n → least test n ≡ Some i) → or_else (least test n) (cond (test n) (Some n) None) ≡ Some i
    by_place true e further = ap (λ o. or_else o (cond (test n) (Some n) None)) (further (ltb-true i n e))
    by_place false e further =
        let last : n ≤ i = ltb-false i n e in
        let same : i ≡ n = omega arith in
        let P : ℕ → Type 0 = λ m. or_else (least test m) (cond (test m) (Some m) None) ≡ Some i in
        subst P same (rw (none, passes) refl)
