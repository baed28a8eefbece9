-- Commands that a driver carries out: what each asks for and comes to, and how it is told where it is not carried out.
use Rattle.zed_types.specs.declared.stamp.Stamp.{Stamp}
use Rattle.cmd_set.specs.declared.reason.SetReason.{SetReason}
use Rattle.cmd_set.specs.Setting.{SetComes, SetWants}
use Rattle.cmd_take.specs.declared.opening.Forcing.{Forcing}
use Rattle.cmd_take.specs.declared.reason.DrawingReason.{DrawingReason}
use Rattle.cmd_take.specs.Opening.{OpenComes, OpenWants}
use Rattle.cmd_take.specs.Taking.{TakeComes, TakeWants}
use Rattle.cmd_compare.specs.Compares.{CompareComes, CompareWants}
use Rattle.cmd_compare.specs.declared.comparing.Strictness.{Strictness}
use Rattle.cmd_undo.specs.declared.manner.Manner.{Manner}
use Rattle.cmd_undo.specs.Undoing.{UndoComes, UndoWants, Wish}
use Rattle.cmd_program.specs.Setting.{ProgramComes, ProgramWants}
use Rattle.std.specs.Prelude.{◌≡◌, ◌≤◌, ℕ, List, Option, Some, Result, IfErr}
use Rattle.zed_op.specs.declared.op.Edit.{Edit}
use Rattle.zed_host.specs.Calls.{Call, Leads}
use Rattle.zed_host.specs.Counting.{Rose}
use Rattle.zed_host.specs.HostContents.{HostContents}
use Rattle.zed_driver.specs.declared.command.Stop.{Stop}
use Rattle.zed_driver.specs.Driven.{AsksIn, Coming, Drives, EndsIn}
use Rattle.zed_driver.specs.Effects.{Effect}
use Rattle.zed_driver.specs.Hosts.{Hosts}
use Rattle.zed_driver.specs.Reading.{Wanting}
use Rattle.zed_refusal.specs.declared.reason.Reason.{Reason}
use Rattle.zed_files.specs.Tells.{FilesCome, FilesWant}
use Rattle.zed_tool.specs.Answers.{Answer, Failure, Handed, drawing_failure, file_failed, handed, set_failure, shared_failure}

-- a command: what it asks for, what it comes to, and the failure that is told for its refusal
pub record Driving : Type 1 where
  pub refusal : Type 0
  pub wants : Wanting
  pub comes : Coming refusal
  pub failure : refusal → Failure

-- ---- the commands

-- one that tells this of a set of edits
abbrev pub to_tell : (List Edit → Result Effect (Stop Reason)) → List (List ℕ) → Driving
to_tell tells files = record { refusal = Reason; wants = FilesWant files; comes = FilesCome tells files; failure = shared_failure }

-- `open`
abbrev pub to_open : Option Stamp → Forcing → List ℕ → List ℕ → Driving
to_open until forcing file world =
    record { refusal = DrawingReason; wants = OpenWants until forcing file world; comes = OpenComes until forcing file world; failure = drawing_failure file }

-- `take`
abbrev pub to_take : Option (List ℕ) → Forcing → List ℕ → ℕ → List ℕ → Driving
to_take base forcing file replica world =
    record { refusal = DrawingReason; wants = TakeWants base file replica world; comes = TakeComes base forcing file replica world; failure = drawing_failure file }

-- `compare`
abbrev pub to_compare : Strictness → List ℕ → List ℕ → Driving
to_compare strictness mine theirs =
    record { refusal = Reason; wants = CompareWants mine theirs; comes = CompareComes strictness; failure = shared_failure }

-- `undo`
abbrev pub to_undo : List ℕ → ℕ → Manner → Wish → Driving
to_undo file replica manner wish = record {
  refusal = DrawingReason;
  wants = UndoWants file replica wish;
  comes = UndoComes file manner replica wish;
  failure = drawing_failure file;
}

-- `set`
abbrev pub to_set : List ℕ → ℕ → List (List ℕ) → Driving
to_set file replica words =
    record { refusal = SetReason; wants = SetWants file replica words; comes = SetComes file replica words; failure = set_failure words }

-- `program`, where it sets a program
abbrev pub to_set_program : List ℕ → ℕ → ℕ → ℕ → List ℕ → Driving
to_set_program file replica board stat text =
    record { refusal = DrawingReason; wants = ProgramWants file replica text; comes = ProgramComes file replica board stat; failure = drawing_failure text }

-- ---- what comes of one. `failed` says that the device failed meanwhile

-- so it ends, with this in its host
abbrev pub EndsDriven : Type 0 → HostContents → Driving → Answer → Option HostContents → Type 0
EndsDriven failed t d answer left = Handed (handed d.failure) (λ r. EndsIn failed t d.wants d.comes r left) answer

-- these are its calls
abbrev pub AsksDriven : {H : Type 0} → (H → Call → H → Type 0) → Driving → Answer → H → H → Type 0
AsksDriven called d answer old new =
    Handed (handed d.failure) (λ r. (calls : List Call) × Leads called calls old new × AsksIn d.wants d.comes r calls) answer

-- both, step by step, by one list of files: no file is asked for that isn't wanted behind those before it, as the host holds them
abbrev pub StepsDriven : {H : Type 0} → Hosts H → Driving → Answer → H → H → Type 0
StepsDriven h d answer old new = Handed (handed d.failure) (λ r. Drives h d.wants d.comes r old new) answer

-- no failure is forgotten, and `File` is answered only where a call failed meanwhile
abbrev pub TellsFailures : {H : Type 0} → (H → ℕ) → (H → ℕ) → Answer → H → H → Type 0
TellsFailures faults failed answer old new =
    (faults old ≤ faults new) × (failed old ≤ failed new) × IfErr answer (λ e. e ≡ file_failed → Rose (failed old) (failed new))

-- it was carried out, or not
pub record Carried {H : Type 0} (h : Hosts H) (d : Driving) (answer : Answer) (old new : H) : Type 0 where
  pub ends : (t : HostContents) → h.contents old ≡ Some t → EndsDriven (Rose (h.faults old) (h.faults new)) t d answer (h.contents new)
  pub asked : AsksDriven h.called d answer old new
  pub steps : StepsDriven h d answer old new
  pub failures : TellsFailures h.faults h.failed answer old new
