-- Steps of a playtest, one after the other.
use Rattle.std.proofs.Common.{◌≡◌, ◌+◌, ℕ, suc, false, arith, refl, subst}
use Rattle.cmd_show.specs.Shown.{Advances, Course, StepsTo}

-- from a course to another, so that what steps follow may be counted to those before
abbrev pub Leads : ℕ → Course → Course → Type 0
Leads n first c = (m : ℕ) (d : Course) → StepsTo m c d → StepsTo (n + m) first d

-- one more step
pub one_more : (n : ℕ) (first c d : Course) → Leads n first c → Advances false c d → Leads (n + 1) first d
one_more n first c d leads on m e steps =
    subst (λ k. StepsTo k first e) (let same : n + suc m ≡ n + 1 + m = omega arith in same) (leads (suc m) e (d, on, steps))

-- no step more
pub none_more : (n : ℕ) (first c : Course) → Leads n first c → StepsTo n first c
none_more n first c leads = subst (λ k. StepsTo k first c) (let same : n + 0 ≡ n = omega arith in same) (leads 0 c refl)

-- before the first step
pub at_start : (first : Course) → Leads 0 first first
at_start first m d steps = subst (λ k. StepsTo k first d) (let same : m ≡ 0 + m = omega arith in same) steps
