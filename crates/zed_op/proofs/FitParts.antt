-- An edit fits where each of its parts is good.
use Rattle.std.proofs.Common.{◌≡◌, Bool, true, false, cond, not, Option, Some, None, refl}
use Rattle.std.specs.Prelude.{◌↔◌}
use Rattle.zed_op.specs.declared.cause.Cause.{Cause}
use Rattle.zed_op.specs.declared.cause.Cause.TheVariants as cause
use Rattle.zed_op.specs.Fit.{has_good_stamps, is_in_range, names_earlier, has_good_world}
use Rattle.zed_op.specs.Verdict.{FitIsEachPart}

-- the first cause of four
abbrev first_of_four : Bool → Bool → Bool → Bool → Option Cause
first_of_four a b c d =
    cond (not a) (Some cause.Stamp) (cond (not b) (Some cause.Range) (cond (not c) (Some cause.Order) (cond (not d) (Some cause.Genesis) None)))

parts : (a b c d : Bool) → first_of_four a b c d ≡ None ↔ ((a ≡ true) × (b ≡ true) × (c ≡ true) × (d ≡ true))
parts true true true true = (λ h. (refl, refl, refl, refl), λ h. refl)
parts true true true false = (λ h. absurd (cc), λ h. absurd (let k = h.3 in cc))
parts true true false d = (λ h. absurd (cc), λ h. absurd (let k = h.2 in cc))
parts true false c d = (λ h. absurd (cc), λ h. absurd (let k = h.1 in cc))
parts false b c d = (λ h. absurd (cc), λ h. absurd (let k = h.0 in cc))

pub fit_is_each_part : FitIsEachPart
fit_is_each_part e = parts (has_good_stamps e) (is_in_range e.op) (names_earlier e) (has_good_world e.op)
