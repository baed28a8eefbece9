-- A number below another that passes a test, and lines below others that are passed over.
use borrow.Author.Tests.{ltb-true, ltb-false}
use Rattle.std.proofs.Common.{◌≡◌, ℕ, zero, suc, ◌-◌, ◌<◌, ◌≤◌, Bool, true, false, ◌||◌, List, ap, refl, arith, nat_lt, subst}
use Rattle.zed_oop_syntax.specs.Text.{line_after}
use Rattle.zed_lint.specs.Labels.{any_below}
use Rattle.zed_lint.specs.Said.{below, is_text, passes}

or_true : (a b : Bool) → b ≡ true → (a || b) ≡ true
or_true true b is = refl
or_true false b is = is

-- one that passes is found below each higher number
pub found_below : (test : ℕ → Bool) (n i : ℕ) → i < n → test i ≡ true → any_below test n ≡ true
found_below test zero i within passes = absurd (omega arith)
found_below test (suc n) i within passes = by_place (nat_lt i n) refl (found_below test n i)
  where
    by_place : (b : Bool) → nat_lt i n ≡ b → (i < n → test i ≡ true → any_below test n ≡ true) → (any_below test n || test n) ≡ true
    by_place true e further = ap (λ (f : Bool). f || test n) (further (ltb-true i n e) passes)
    by_place false e further =
        let last : n ≤ i = ltb-false i n e in
        let same : i ≡ n = omega arith in
        or_true (any_below test n) (test n) (subst (λ (m : ℕ). test m ≡ true) same passes)

-- a line that is passed over
pub line_passed : (p : List ℕ) (n line : ℕ) → 0 < n → passes p line ≡ true → below p (n - 1) (line_after p line) ≡ below p n line
line_passed p zero line some is = absurd (omega arith)
line_passed p (suc n) line some is = let e : suc n - 1 ≡ n = omega arith in rw (e, is) refl

-- a line that isn't
pub line_kept : (p : List ℕ) (n line : ℕ) → 0 < n → passes p line ≡ false → is_text p line ≡ below p n line
line_kept p zero line some is = absurd (omega arith)
line_kept p (suc n) line some is = rw is refl
