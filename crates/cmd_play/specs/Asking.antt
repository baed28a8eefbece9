-- What a playtest that is kept asks of its host.
use Rattle.std.specs.Prelude.{◌≡◌, ◌⊎◌, ℕ, Bool, true, false, List, ◌++◌, map, Option, Some, None}
use Rattle.zed_host.specs.Calls.{Ask, Call, Reading, Writing, call}
use Rattle.zed_files.specs.declared.refusal.Refusal.{Refusal}
use Rattle.zed_files.specs.declared.refusal.Refusal.TheVariants.{File, Memory}
use Rattle.zed_files.specs.Asked.{Asks, named, reading}

-- the file of a name is asked for, if one is named; it need not be there
abbrev pub Sought : {H : Type 0} → (H → Call → H → Type 0) → Option (List ℕ) → H → H → Type 0
Sought called None old new = new ≡ old
Sought called (Some name) old new = (absent : Bool) × called old (call (Reading name) absent) new

-- it can't be had: memory runs out, or the read fails
abbrev pub IsLost : {H : Type 0} → (H → Call → H → Type 0) → Option (List ℕ) → Refusal → H → H → Type 0
IsLost called None e old new = ⊥
IsLost called (Some name) e old new =
    ((e ≡ Memory) × called old (call (Reading name) false) new) ⊎ ((e ≡ File) × called old (call (Reading name) true) new)

-- a step asks for the file of a name and for nothing else, and is refused or not
abbrev pub AsksKept : {H : Type 0} → (H → Call → H → Type 0) → Option (List ℕ) → Option Refusal → H → H → Type 0
AsksKept called name None old new = Sought called name old new
AsksKept called name (Some e) old new = IsLost called name e old new

-- the files of two names are asked for, the one behind the other, and then what this leads to is asked for; or one of them can't be had
abbrev pub AsksBehind : {H : Type 0} → (H → Call → H → Type 0) → Option (List ℕ) → Option (List ℕ) → (Option Refusal → H → H → Type 0) → Option Refusal → H → H → Type 0
AsksBehind called words keys Later told old new =
    ((e : Refusal) × (told ≡ Some e) × IsLost called words e old new)
    ⊎ ((mid : _) × Sought called words old mid
    × (((e : Refusal) × (told ≡ Some e) × IsLost called keys e mid new)
    ⊎ ((last : _) × Sought called keys mid last × Later told last new)))

-- nothing more is asked for, and memory may run out
abbrev pub AsksNoMore : {H : Type 0} → Option Refusal → H → H → Type 0
AsksNoMore told old new = (new ≡ old) × ((told ≡ None) ⊎ (told ≡ Some Memory))

-- files are written, one after the other, as far as they are named
abbrev pub keeping : Option (List ℕ) → Option (List ℕ) → List Ask
keeping words keys = map (λ name. Writing name) (named words ++ named keys)

-- what is kept of a playtest is asked for; then the files of its world are read; and at its end these last calls are made
abbrev pub AsksPlay : {H : Type 0} → (H → Call → H → Type 0) → Option (List ℕ) → Option (List ℕ) → List (List ℕ) → List Ask → Option Refusal → H → H → Type 0
AsksPlay called words keys files last = AsksBehind called words keys (Asks called (reading files) last)
