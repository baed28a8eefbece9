-- What a command comes to that a driver carries out.
use Rattle.std.specs.List.{list_any}
use Rattle.std.specs.Prelude.{◌≡◌, ◌≤◌, ◌⊎◌, ◌++◌, ◌∷◌, ℕ, Bool, true, false, List, [], Option, Some, Result, Ok, Err, IfErr, is_some}
use Rattle.zed_host.specs.Calls.{Ask, Call, Leads, Reading, call, failed_at, passed}
use Rattle.zed_host.specs.Counting.{Rose}
use Rattle.zed_host.specs.HostContents.{HostContents, StillTells, file_in}
use Rattle.zed_driver.specs.declared.command.Stop.{Stop}
use Rattle.zed_driver.specs.declared.command.Stop.TheVariants.{Memory, File}
use Rattle.zed_driver.specs.declared.input.Input.{Input}
use Rattle.zed_driver.specs.Effects.{Effect, HalfDone, NotedIn, after, asks_of, noting}
use Rattle.zed_driver.specs.Hosts.{Hosts}
use Rattle.zed_driver.specs.Reading.{Answer, AsksEach, Follows, Wanting, calls_of, files_of}
use Rattle.zed_driver.specs.Reads.{IsHeld, LacksMemory, fails, lacks}
use Rattle.zed_driver.specs.Writes.{BrokeOff, CarriedOut}

-- what a command comes to after these files: an effect, or a refusal
abbrev pub Coming : Type 0 → Type 1
Coming E = List Input → Result Effect (Stop E) → Type 0

-- ---- step by step

-- after these files it is refused: memory is lacking for the next one, which is there; or it says so itself
abbrev pub IsStopped : {H E : Type 0} → Hosts H → Wanting → Coming E → Stop E → H → List Input → H → Type 0
IsStopped h Wants Comes e new files mid =
    ((e ≡ Memory) × ((name : List ℕ) × Wants files name × LacksMemory h name mid new)) ⊎ ((new ≡ mid) × Comes files (Err e))

-- after these files its effect is carried out, or the host fails at it; or it is refused
abbrev pub Ends : {H E : Type 0} → Hosts H → Wanting → Coming E → Result ℕ (Stop E) → H → List Input → H → Type 0
Ends h Wants Comes (Ok status) new files mid = (x : Effect) × Comes files (Ok x) × (status ≡ x.status) × CarriedOut h x mid new
Ends h Wants Comes (Err e) new files mid =
    IsStopped h Wants Comes e new files mid ⊎ ((e ≡ File) × ((x : Effect) × Comes files (Ok x) × BrokeOff h x mid new))

-- a command answered so, and led from the one state of a host to the other
abbrev pub Drives : {H E : Type 0} → Hosts H → Wanting → Coming E → Result ℕ (Stop E) → H → H → Type 0
Drives h Wants Comes answer old new = Follows h Wants old (Ends h Wants Comes answer new)

-- ---- what that says of a host that tells what it holds. `failed` says that the device failed meanwhile

-- each file is as the host holds it; a read that failed by a fault says nothing of that
abbrev pub AreHeld : HostContents → List Answer → Type 0
AreHeld t [] = Unit {0}
AreHeld t (r ∷ rs) = IsHeld t r.name r.file × AreHeld t rs

-- one of these reads failed by a fault of the device
abbrev pub some_fails : List Answer → Bool
some_fails rs = list_any (λ r. fails r.file) rs

-- one of them failed, for want of the file or by a fault
abbrev pub some_lacks : List Answer → Bool
some_lacks rs = list_any (λ r. lacks r.file) rs

-- files that a command asks for, as such a host answers them
abbrev pub AreAnswers : Type 0 → HostContents → Wanting → List Answer → Type 0
AreAnswers failed t Wants rs = AsksEach Wants [] rs × AreHeld t rs × (some_fails rs ≡ true → failed)

-- what a command comes to in such a host: what it comes to after these files
abbrev pub ComesIn : {E : Type 0} → Type 0 → HostContents → Wanting → Coming E → Result Effect (Stop E) → Type 0
ComesIn failed t Wants Comes r =
    (rs : List Answer) × AreAnswers failed t Wants rs × Comes (files_of rs) r

-- memory is lacking for the next file that it asks for, which is there
abbrev pub LacksIn : Type 0 → HostContents → Wanting → Type 0
LacksIn failed t Wants =
    (rs : List Answer) × AreAnswers failed t Wants rs × ((name : List ℕ) × Wants (files_of rs) name × (is_some (file_in t name) ≡ true))

-- so it ends: its effect is there, and behind it its note; or it is refused, which leaves all as it was; or the host fails at its effect
abbrev pub EndsIn : {E : Type 0} → Type 0 → HostContents → Wanting → Coming E → Result ℕ (Stop E) → Option HostContents → Type 0
EndsIn failed t Wants Comes (Ok status) new =
    (x : Effect) × ComesIn failed t Wants Comes (Ok x) × (status ≡ x.status) × StillTells (NotedIn failed x.note (after x t)) new
EndsIn failed t Wants Comes (Err e) new =
    ((new ≡ Some t) × (((e ≡ Memory) × LacksIn failed t Wants) ⊎ ComesIn failed t Wants Comes (Err e)))
    ⊎ (failed × (e ≡ File) × ((x : Effect) × ComesIn failed t Wants Comes (Ok x) × StillTells (HalfDone x t) new))

-- ---- what it says of the calls

-- the calls of a command, each once and in this order: those that read its files, then those of its effect, and then that of its note
abbrev pub AsksIn : {E : Type 0} → Wanting → Coming E → Result ℕ (Stop E) → List Call → Type 0
AsksIn Wants Comes (Ok status) calls =
    (rs : List Answer) × (x : Effect) × (failed : Bool) × AsksEach Wants [] rs × Comes (files_of rs) (Ok x) × (status ≡ x.status)
    × (calls ≡ calls_of rs ++ passed (asks_of x) ++ noting failed x.note)
AsksIn Wants Comes (Err e) calls =
    ((e ≡ Memory) × ((rs : List Answer) × (name : List ℕ) × AsksEach Wants [] rs × Wants (files_of rs) name
    × (calls ≡ calls_of rs ++ call (Reading name) false ∷ [])))
    ⊎ ((rs : List Answer) × AsksEach Wants [] rs × Comes (files_of rs) (Err e) × (calls ≡ calls_of rs))
    ⊎ ((e ≡ File) × ((rs : List Answer) × (x : Effect) × (front : List Ask) × (ask : Ask) × (rest : List Ask)
    × AsksEach Wants [] rs × Comes (files_of rs) (Ok x) × (asks_of x ≡ front ++ ask ∷ rest) × (calls ≡ calls_of rs ++ failed_at front ask)))

-- ---- both, and the counts

-- what a command comes to that a driver carries out: what its host holds then, and each call, in order; no failure is forgotten
pub record Driven {H E : Type 0} (h : Hosts H) (Wants : Wanting) (Comes : Coming E) (answer : Result ℕ (Stop E)) (old new : H) : Type 0 where
  pub ends : (t : HostContents) → h.contents old ≡ Some t → EndsIn (Rose (h.faults old) (h.faults new)) t Wants Comes answer (h.contents new)
  pub asked : (calls : List Call) × Leads h.called calls old new × AsksIn Wants Comes answer calls
  pub faults : h.faults old ≤ h.faults new
  pub failed : h.failed old ≤ h.failed new
  pub file_only_when : ((rs : List Answer) → Comes (files_of rs) (Err File) → some_lacks rs ≡ true)
      → IfErr answer (λ e. e ≡ File → Rose (h.failed old) (h.failed new))
