-- What a command asks of its host.
use Rattle.zed_files.specs.declared.refusal.Refusal.{Refusal}
use Rattle.zed_files.specs.declared.refusal.Refusal.TheVariants.{File, Memory}
use Rattle.std.specs.Prelude.{◌≡◌, ◌≢◌, ◌⊎◌, ℕ, List, [], ◌∷◌, ◌++◌, Option, Some, None, Result, Ok, Err, codes, map, if◌then◌else◌}
use Rattle.std.specs.Str.{bytes_eq}
use Rattle.zed_host.specs.Calls.{Ask, Call, Printing, Reading, Writing, Leads, failed_at, passed}

-- files are read, one after the other
abbrev pub reading : List (List ℕ) → List Ask
reading names = map (λ name. Reading name) names

-- the file of a name, where one is given
abbrev pub named : Option (List ℕ) → List (List ℕ)
named None = []
named (Some name) = name ∷ []

-- a file is written, and a line printed, which is left out where the file goes to the standard output
abbrev pub writing : List ℕ → List Ask
writing out = Writing out ∷ (if bytes_eq out (codes "stdout") then [] else Printing ∷ [])

-- a front of these was asked for, and nothing of it failed
abbrev pub Begun : List Ask → List Call → Type 0
Begun asks calls = (front : List Ask) × (rest : List Ask) × (asks ≡ front ++ rest) × (calls ≡ passed front)

-- a front of these was asked for, and the last of it failed
abbrev pub BrokenOff : List Ask → List Call → Type 0
BrokenOff asks calls =
    (front : List Ask) × (ask : Ask) × (rest : List Ask) × (asks ≡ front ++ ask ∷ rest) × (calls ≡ failed_at front ask)

-- all reads passed, and a front of what comes at the end was asked for, of which the last failed
abbrev pub FailedAtEnd : List Ask → List Ask → List Call → Type 0
FailedAtEnd reads last calls = (ending : List Call) × BrokenOff last ending × (calls ≡ passed reads ++ ending)

-- the calls of a command that makes these reads, and at its end these last calls: all of them, each once and in this order, where it is not
-- refused; else the reads up to the first that failed, or to where it needed no more; or those up to a failure at its end. `File` is told
-- only where the last of them failed, and `Memory` only where none did
abbrev pub Asked : List Ask → List Ask → Option Refusal → List Call → Type 0
Asked reads last None calls = calls ≡ passed (reads ++ last)
Asked reads last (Some e) calls =
    ((e ≢ File) × Begun reads calls) ⊎ ((e ≢ Memory) × BrokenOff reads calls) ⊎ ((e ≡ File) × FailedAtEnd reads last calls)

-- such calls and no others lead from the one state of a host to the other
abbrev pub Asks : {H : Type 0} → (H → Call → H → Type 0) → List Ask → List Ask → Option Refusal → H → H → Type 0
Asks called reads last told old new = (calls : List Call) × Leads called calls old new × Asked reads last told calls

-- the refusal that is answered, if one is
abbrev pub refusal_in : {X : Type 0} → Result X Refusal → Option Refusal
refusal_in (Ok x) = None
refusal_in (Err e) = Some e
