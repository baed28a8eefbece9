-- Which answers of a command tell that the host failed. The counts are those of the faults and of the failed calls of a host.
use Rattle.std.specs.Prelude.{◌≡◌, ◌≤◌, ℕ, Result, IfErr}
use Rattle.zed_host.specs.Counting.{Rose}
use Rattle.zed_files.specs.declared.refusal.Refusal.{Refusal}
use Rattle.zed_files.specs.declared.refusal.Refusal.TheVariants.{File}

-- from the one state of a host to the other no fault is forgotten, and no failed call
abbrev pub NoneForgotten : {H : Type 0} → (H → ℕ) → (H → ℕ) → H → H → Type 0
NoneForgotten faults failed old new = (faults old ≤ faults new) × (failed old ≤ failed new)

-- the same, and `File` is answered only where a call failed meanwhile
abbrev pub TellsFailures : {H X : Type 0} → (H → ℕ) → (H → ℕ) → Result X Refusal → H → H → Type 0
TellsFailures faults failed answer old new =
    NoneForgotten faults failed old new × IfErr answer (λ e. e ≡ File → Rose (failed old) (failed new))
