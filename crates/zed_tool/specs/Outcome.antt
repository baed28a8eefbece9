-- What `run` does.
use Rattle.std.specs.Prelude.{◌≡◌, ◌≤◌, ◌<◌, ◌⊎◌, ℕ, Bool, true, false, List, length, Option, Some, None, Ok, Err}
use Rattle.clap.specs.Walk.{Text}
use Rattle.zed_host.specs.Calls.{Call, Complaining, Printing, call}
use Rattle.zed_host.specs.Counting.{Rose}
use Rattle.zed_host.specs.HostContents.{HalfComplained, HalfPrinted, HostContents, StillTells, with_complaint, with_printed}
use Rattle.zed_driver.specs.Hosts.{Hosts}
use Rattle.cmd_play.specs.Led.{Led}
use Rattle.zed_tool_words.specs.Commands.{AsksHelp, AsksVersion, Command, MayAskHelp, MayAskVersion, command_of}
use Rattle.zed_tool_words.specs.Version.{version_text}
use Rattle.zed_tool.specs.Answers.{Answer, Failure, file_failed, memory}
use Rattle.zed_tool.specs.Commands.{AsksCourse, Course, EndsCourse, StepsCourse, course_of}
use Rattle.zed_tool.specs.Driving.{TellsFailures}
use Rattle.zed_tool.specs.Lines.{line_of, tells_more}

-- no failure is forgotten
abbrev pub NoneForgotten : {H : Type 0} → Hosts H → H → H → Type 0
NoneForgotten h old new = (h.faults old ≤ h.faults new) × (h.failed old ≤ h.failed new)

-- a command that answered this led from the one state of a host to the other, and devices so: what it left, what it asked for, call by call,
-- that step by step where a driver carried it out, and that it forgot no failure
pub record Acted {H : Type 0} (h : Hosts H) (moved : Led) (course : Course) (answer : Answer) (old new : H) : Type 0 where
  pub ends : (t : HostContents) → h.contents old ≡ Some t
      → EndsCourse (Rose (h.faults old) (h.faults new)) moved t course answer (h.contents new)
  pub asked : AsksCourse h.called course answer old new
  pub steps : StepsCourse h course answer old new
  pub failures : TellsFailures h.faults h.failed answer old new

-- a text is on the standard error, or the host failed at it
abbrev pub IsComplained : Type 0 → List ℕ → HostContents → Option HostContents → Type 0
IsComplained failed text t new = (new ≡ Some (with_complaint text t)) ⊎ (failed × StillTells (HalfComplained text t) new)

-- one call did that
pub record Complained {H : Type 0} (h : Hosts H) (text : List ℕ) (old new : H) : Type 0 where
  pub told : (t : HostContents) → h.contents old ≡ Some t → IsComplained (Rose (h.faults old) (h.faults new)) text t (h.contents new)
  pub asked : (failed : Bool) × h.called old (call (Complaining text) failed) new
  pub failures : NoneForgotten h old new

-- one call printed a text
pub record Printed {H : Type 0} (h : Hosts H) (text : List ℕ) (old new : H) : Type 0 where
  pub told : (t : HostContents) → h.contents old ≡ Some t → h.contents new ≡ Some (with_printed text t)
  pub asked : h.called old (call Printing false) new
  pub failures : NoneForgotten h old new

-- one call was to print a text, and failed
pub record FailedToPrint {H : Type 0} (h : Hosts H) (text : List ℕ) (old new : H) : Type 0 where
  pub left : (t : HostContents) → h.contents old ≡ Some t → StillTells (HalfPrinted text t) (h.contents new)
  pub asked : h.called old (call Printing true) new
  pub failures : Rose (h.faults old) (h.faults new) × Rose (h.failed old) (h.failed new)

-- the line of a failure; where it tells more than a name memory may run out for it, and then its line says so
abbrev pub IsLineOf : Failure → List ℕ → Type 0
IsLineOf e line = (line ≡ line_of e) ⊎ ((tells_more e ≡ true) × (line ≡ line_of memory))

-- the user is told of a failure
abbrev pub TellsOf : {H : Type 0} → Hosts H → Failure → H → H → Type 0
TellsOf h e old new = (line : List ℕ) × IsLineOf e line × Complained h line old new

-- a command is carried out with its status; or it isn't, with status 1, and then the user is told why
abbrev pub RunsCommand : {H : Type 0} → Hosts H → Led → Command → ℕ → H → H → Type 0
RunsCommand h moved command status old new =
    Acted h moved (course_of command) (Ok status) old new
    ⊎ ((status ≡ 1) × ((e : Failure) × (mid : _) × Acted h moved (course_of command) (Err e) old mid × TellsOf h e mid new))

-- a text is printed with status 0; where that failed the status is 1
abbrev pub Prints : {H : Type 0} → Hosts H → List ℕ → ℕ → H → H → Type 0
Prints h text status old new =
    ((status ≡ 0) × Printed h text old new)
    ⊎ ((status ≡ 1) × ((mid : _) × FailedToPrint h text old mid × TellsOf h file_failed mid new))

-- the user is told a text, which isn't empty
abbrev pub TellsAloud : {H : Type 0} → Hosts H → H → H → Type 0
TellsAloud h old new = (text : List ℕ) × Complained h text old new × (0 < length text)

-- a text that isn't empty is printed with status 0; where that failed the status is 1
abbrev pub PrintsAloud : {H : Type 0} → Hosts H → ℕ → H → H → Type 0
PrintsAloud h status old new = (text : List ℕ) × Prints h text status old new × (0 < length text)

-- words that are no command are refused with status 2 and a text; or they ask for help, which is printed, or for the version
abbrev pub RunsOther : {H : Type 0} → Hosts H → List Text → ℕ → H → H → Type 0
RunsOther h words status old new =
    ((status ≡ 2) × ¬ (AsksHelp words) × ¬ (AsksVersion words) × TellsAloud h old new)
    ⊎ (MayAskHelp words × PrintsAloud h status old new)
    ⊎ (MayAskVersion words × Prints h version_text status old new)

-- what words come to that ask for a command, or for none
abbrev pub RunsAs : {H : Type 0} → Hosts H → Led → List Text → Option Command → ℕ → H → H → Type 0
RunsAs h moved words (Some command) status old new = RunsCommand h moved command status old new
RunsAs h moved words None status old new = RunsOther h words status old new

-- the whole of a run; with status 1 memory may run out before anything is done
abbrev pub Runs : {H : Type 0} → Hosts H → Led → List Text → ℕ → H → H → Type 0
Runs h moved words status old new =
    RunsAs h moved words (command_of words) status old new ⊎ ((status ≡ 1) × Complained h (line_of memory) old new)
