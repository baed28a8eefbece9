-- How a command ends, under the driver or not yet. `failed` says that the device failed meanwhile.
use Rattle.zed_files.specs.declared.refusal.Refusal.{Refusal}
use Rattle.zed_files.specs.declared.refusal.Refusal.TheVariants.{File, Memory}
use Rattle.std.specs.Prelude.{◌≡◌, ◌≤◌, ◌⊎◌, ℕ, List, [], Option, Some, None, Result, Ok, Err, IfErr, MatchResult, ⊤}
use Rattle.zed_host.specs.Calls.{Call, Leads}
use Rattle.zed_host.specs.Counting.{Rose}
use Rattle.zed_host.specs.HostContents.{HostContents, StillTells}
use Rattle.zed_driver.specs.declared.command.Stop.{Stop}
use Rattle.zed_driver.specs.Driven.{AsksIn, ComesIn, Coming, Drives}
use Rattle.zed_driver.specs.Effects.{Effect, HalfDone, after, effect, prints, writes}
use Rattle.zed_driver.specs.Hosts.{Hosts}
use Rattle.zed_driver.specs.Reading.{Wanting}
use Rattle.zed_refusal.specs.declared.reason.Reason.{Reason}
use Rattle.zed_files.specs.Asked.{refusal_in}
use Rattle.zed_files.specs.Effects as beside
use Rattle.zed_files.specs.Faults.{TellsFailures}
use Rattle.zed_files.specs.Refusals.{IsOffStage, refused_as}

-- a command is refused before its effect, which leaves all as it was
abbrev pub RefusedBefore : (Result Effect Refusal → Type 0) → HostContents → Refusal → HostContents → Type 0
RefusedBefore Comes t e u = (u ≡ t) × ((e ≡ Memory) ⊎ Comes (Err e))

-- the host fails at its effect
abbrev pub FailedAt : Type 0 → (Result Effect Refusal → Type 0) → HostContents → Refusal → HostContents → Type 0
FailedAt failed Comes t e u = failed × (e ≡ File) × ((x : Effect) × Comes (Ok x) × HalfDone x t u)

-- either of them
abbrev pub IsRefused : Type 0 → (Result Effect Refusal → Type 0) → HostContents → Refusal → HostContents → Type 0
IsRefused failed Comes t e u = RefusedBefore Comes t e u ⊎ FailedAt failed Comes t e u

-- a command that comes to this ends so
abbrev pub Ends : Type 0 → (Result Effect Refusal → Type 0) → HostContents → Result ⊤ Refusal → Option HostContents → Type 0
Ends failed Comes t result new = MatchResult result
    (λ _. (x : Effect) × Comes (Ok x) × (new ≡ Some (after x t)))
    (λ e. StillTells (IsRefused failed Comes t e) new)

-- ---- commands under the driver

-- what one comes to, with the refusal that is told
abbrev pub ComesUnder : Type 0 → HostContents → Wanting → Coming Reason → Result Effect Refusal → Type 0
ComesUnder failed t Wants Comes r = (q : Result Effect (Stop Reason)) × ComesIn failed t Wants Comes q × (r ≡ refused_as q)

-- such calls of one that answers this, and no others, lead from the one state of a host to the other
abbrev pub AsksUnder : {H : Type 0} → (H → Call → H → Type 0) → Wanting → Coming Reason → Option Refusal → H → H → Type 0
AsksUnder called Wants Comes told old new =
    (q : Result ℕ (Stop Reason)) × (calls : List Call) × Leads called calls old new × AsksIn Wants Comes q calls × (told ≡ refusal_in (refused_as q))

-- its steps by one list of files: none is asked for behind one that is refused, and each is as the host held it
abbrev pub StepsUnder : {H : Type 0} → Hosts H → Wanting → Coming Reason → Option Refusal → H → H → Type 0
StepsUnder h Wants Comes told old new =
    (q : Result ℕ (Stop Reason)) × Drives h Wants Comes q old new × (told ≡ refusal_in (refused_as q))

-- an effect without a note, after which the status is 0
abbrev pub IsPlain : Effect → Type 0
IsPlain x = (x.note ≡ None) × (x.status ≡ 0)

-- one was carried out: what its host holds then, each call, in order, both step by step, and which failures it tells
pub record Carried {H : Type 0} (h : Hosts H) (Wants : Wanting) (Comes : Coming Reason) (result : Result ⊤ Refusal) (old new : H) : Type 0 where
  pub ends : (t : HostContents) → h.contents old ≡ Some t
      → Ends (Rose (h.faults old) (h.faults new)) (ComesUnder (Rose (h.faults old) (h.faults new)) t Wants Comes) t result (h.contents new)
  pub asked : AsksUnder h.called Wants Comes (refusal_in result) old new
  pub steps : StepsUnder h Wants Comes (refusal_in result) old new
  pub failures : TellsFailures h.faults h.failed result old new
  pub err : IfErr result IsOffStage

-- ---- commands that call devices

-- the effect of one
abbrev pub effect_of : beside.Effect → Effect
effect_of (beside.Writes out bytes line) = writes out bytes line
effect_of (beside.Prints text) = prints text 0
effect_of beside.Leaves = effect [] None 0

-- what one comes to
abbrev pub as_effect : Result beside.Effect Refusal → Result Effect Refusal
as_effect (Ok x) = Ok (effect_of x)
as_effect (Err e) = Err e

-- the same by its own definition
abbrev pub ComesBeside : (Result beside.Effect Refusal → Type 0) → Result Effect Refusal → Type 0
ComesBeside Comes r = (q : Result beside.Effect Refusal) × Comes q × (r ≡ as_effect q)
