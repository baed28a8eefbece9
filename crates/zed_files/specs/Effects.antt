-- What a command leaves in its host. `failed` says that the device failed meanwhile.
use Rattle.zed_files.specs.declared.refusal.Refusal.{Refusal}
use Rattle.zed_files.specs.declared.refusal.Refusal.TheVariants.{File, Memory}
use Rattle.std.specs.Prelude.{◌≡◌, ◌⊎◌, ℕ, false, List, Option, Some, Result, Ok, Err, MatchResult, codes, if◌then◌else◌, ⊤}
use Rattle.std.specs.Str.{bytes_eq}
use Rattle.zed_host.specs.HostContents.{HalfPrinted, HalfWritten, HostContents, StillTells, with_file, with_printed}

-- a line on the standard output, which is left out where the file goes there
abbrev pub with_line : List ℕ → List ℕ → HostContents → HostContents
with_line out line t = if bytes_eq out (codes "stdout") then t else with_printed line t

-- a file, and then a line
abbrev pub written_to : List ℕ → List ℕ → List ℕ → HostContents → HostContents
written_to out bytes line t = with_line out line (with_file out bytes t)

-- what a command does at its end: it writes a file and a line that counts, or prints a text, or leaves the host as it is
pub data Effect : Type 0 where
  Writes : (out : List ℕ) → (bytes : List ℕ) → (line : List ℕ) → Effect
  Prints : (text : List ℕ) → Effect
  Leaves : Effect

-- what the host holds after it
abbrev pub after : Effect → HostContents → HostContents
after (Writes out bytes line) t = written_to out bytes line t
after (Prints text) t = with_printed text t
after Leaves t = t

-- what it may hold where the host failed at it: perhaps a front of the file; or the file is there, but
-- the line isn't printed whole; or the text isn't
abbrev pub HalfDone : Effect → HostContents → HostContents → Type 0
HalfDone (Writes out bytes line) t u = HalfWritten out bytes t u
    ⊎ ((bytes_eq out (codes "stdout") ≡ false) × HalfPrinted line (with_file out bytes t) u)
HalfDone (Prints text) t u = HalfPrinted text t u
HalfDone Leaves t u = ⊥

-- a command is refused before its effect, which leaves all as it was
abbrev pub RefusedBefore : (Result Effect Refusal → Type 0) → HostContents → Refusal → HostContents → Type 0
RefusedBefore Comes t e u = (u ≡ t) × ((e ≡ Memory) ⊎ Comes (Err e))

-- the host fails at its effect
abbrev pub FailedAt : Type 0 → (Result Effect Refusal → Type 0) → HostContents → Refusal → HostContents → Type 0
FailedAt failed Comes t e u = failed × (e ≡ File) × ((x : Effect) × Comes (Ok x) × HalfDone x t u)

-- either of them
abbrev pub IsRefused : Type 0 → (Result Effect Refusal → Type 0) → HostContents → Refusal → HostContents → Type 0
IsRefused failed Comes t e u = RefusedBefore Comes t e u ⊎ FailedAt failed Comes t e u

-- a command that comes to this ends so
abbrev pub Ends : Type 0 → (Result Effect Refusal → Type 0) → HostContents → Result ⊤ Refusal → Option HostContents → Type 0
Ends failed Comes t result new = MatchResult result
    (λ _. (x : Effect) × Comes (Ok x) × (new ≡ Some (after x t)))
    (λ e. StillTells (IsRefused failed Comes t e) new)
