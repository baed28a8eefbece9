-- Calls of a host one after the other.
use Rattle.std.proofs.Common.{◌≡◌, ◌∙◌, ◌<◌, ◌≤◌, ℕ, Bool, true, false, List, [], ◌∷◌, ◌++◌, ap, arith, refl, subst}
use Rattle.std.proofs.lemmas.List.{map-append}
use Rattle.zed_host.specs.Calls.{Ask, Call, Leads, call, passed}
use Rattle.zed_host.specs.Counting.{Counts, NothingFailed, most_counted}
use Rattle.zed_host.proofs.Counts.{counted_up, no_rise}

pub leads_one : {H : Type 0} (called : H → Call → H → Type 0) (c : Call) (old new : H) → called old c new → Leads called (c ∷ []) old new
leads_one called c old new is = (new, is, refl)

pub leads_then : {H : Type 0} (called : H → Call → H → Type 0) (xs ys : List Call) (old mid new : H) → Leads called xs old mid
    → Leads called ys mid new
    → Leads called (xs ++ ys) old new
leads_then called [] ys old mid new first second = subst (λ m. Leads called ys m new) first second
leads_then called (c ∷ xs) ys old mid new first second = (first.0, first.1, leads_then called xs ys first.0 mid new first.2 second)

pub passed_then : (xs ys : List Ask) → passed (xs ++ ys) ≡ passed xs ++ passed ys
passed_then xs ys = map-append (λ ask. call ask false) xs ys

-- what a host promises of its counts
abbrev pub CountsFailures : {H : Type 0} → (H → Call → H → Type 0) → (H → ℕ) → Type 0
CountsFailures called failed = (old : _) (c : Call) (new : _) → called old c new → Counts c.failed (failed old) (failed new)

abbrev pub CountsNoFault : {H : Type 0} → (H → Call → H → Type 0) → (H → ℕ) → Type 0
CountsNoFault called faults = (old : _) (c : Call) (new : _) → called old c new → c.failed ≡ false → faults new ≡ faults old

pub never_fewer : {H : Type 0} (called : H → Call → H → Type 0) (failed : H → ℕ) → CountsFailures called failed
    → (calls : List Call) (old new : H) → Leads called calls old new → failed old ≤ failed new
never_fewer called failed law [] old new is = let same : failed new ≡ failed old = ap failed is in omega arith
never_fewer called failed law (c ∷ calls) old new is =
    let first : failed old ≤ failed is.0 = counted_up c.failed (failed old) (failed is.0) (law old c is.0 is.1) in
    let second : failed is.0 ≤ failed new = never_fewer called failed law calls is.0 new is.2 in
    omega arith

-- where no failure was counted, there was no fault
pub calm_calls : {H : Type 0} (called : H → Call → H → Type 0) (failed faults : H → ℕ) → CountsFailures called failed
    → CountsNoFault called faults
    → (calls : List Call) (old new : H) → Leads called calls old new → NothingFailed (failed old) (failed new) → faults new ≡ faults old
calm_calls called failed faults law none [] old new is calm = ap faults is
calm_calls called failed faults law none (c ∷ calls) old new is calm =
    go c.failed refl (law old c is.0 is.1)
    (λ calm. calm_calls called failed faults law none calls is.0 new is.2 calm)
  where
    go : (b : Bool) → c.failed ≡ b → Counts b (failed old) (failed is.0)
        → (NothingFailed (failed is.0) (failed new) → faults new ≡ faults is.0) → faults new ≡ faults old
    go true lost count later =
        absurd (no_rise (failed old) (failed is.0) (failed new) (never_fewer called failed law calls is.0 new is.2) calm count)
    go false went count later =
        let still : failed new ≡ failed old = calm.0 in
        let low : failed old < most_counted = calm.1 in
        let same : failed is.0 ≡ failed old = count in
        later (omega arith, omega arith) ∙ none old c is.0 is.1 went
