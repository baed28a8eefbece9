-- What commands answer, as the program hands it on: the status where they were carried out, or why they were not.
use Rattle.zed_files.specs.declared.refusal.Refusal.{Refusal}
use Rattle.zed_files.specs.declared.refusal.Refusal.TheVariants as refusal
use Rattle.zed_files.specs.Refusals.{reason_refusal}
use Rattle.zed_driver.specs.declared.command.Stop.{Stop}
use Rattle.zed_driver.specs.declared.command.Stop.TheVariants as stop
use Rattle.zed_refusal.specs.declared.reason.Reason.{Reason}
use Rattle.cmd_take.specs.declared.reason.DrawingReason.{DrawingReason}
use Rattle.cmd_take.specs.declared.reason.DrawingReason.TheVariants as drawing
use Rattle.cmd_set.specs.declared.reason.SetReason.{SetReason}
use Rattle.cmd_set.specs.declared.reason.SetReason.TheVariants as setting
use Rattle.zed_set_words.specs.declared.bad.Expected.{Expected}
use Rattle.zed_set_words.specs.declared.bad.BadWord.{BadWord as WrongWord}
use Rattle.zed_tool.specs.declared.error.ToolError.{ToolError}
use Rattle.zed_tool.specs.declared.error.ToolError.TheVariants as tool
use Rattle.std.specs.Prelude.{◌≡◌, ℕ, List, Option, Result, Ok, Err, ⊤, option_map, slice_get}

-- why a command was not carried out: a refusal that `zzted` has too; a world file that was drawn in and not taken; more than half of the
-- boards that would be taken away; a word that may not be
-- there, or none where more are wanted, and what may be there; a file whose text is no program, with the line and the column
pub data Failure : Type 0 where
  Refused : (refusal : Refusal) → Failure
  NotTaken : Failure
  TakesAway : (boards : ℕ) → Failure
  BadWord : (word : Option (List ℕ)) → (expected : Expected) → Failure
  BadText : (file : List ℕ) → (line : ℕ) → (column : ℕ) → Failure

-- want of memory
abbrev pub memory : Failure
memory = Refused refusal.Memory

-- a file that can't be had, or a host that failed
abbrev pub file_failed : Failure
file_failed = Refused refusal.File

-- the status, or why there is none
abbrev pub Answer : Type 0
Answer = Result ℕ Failure

-- a failure of the code
abbrev pub failure_of : ToolError → Failure
failure_of (tool.Refused e) = Refused e
failure_of tool.NotTaken = NotTaken
failure_of (tool.TakesAway boards) = TakesAway boards
failure_of (tool.BadWord word expected) = BadWord (option_map (λ s. s.now) word) expected
failure_of (tool.BadText name bad) = BadText name.now bad.line bad.column

-- an answer of the code
abbrev pub answer_of : Result ℕ ToolError → Answer
answer_of (Ok status) = Ok status
answer_of (Err e) = Err (failure_of e)

-- of a playtest
abbrev pub told_as : Result ⊤ Refusal → Answer
told_as (Ok u) = Ok 0
told_as (Err e) = Err (Refused e)

-- ---- of a command that the driver carries out

-- the failure of one that stopped, by that of its refusal
abbrev pub failure_as : {E : Type 0} → (E → Failure) → Stop E → Failure
failure_as f stop.Memory = memory
failure_as f stop.File = file_failed
failure_as f (stop.Refused e) = f e

-- of such a command
abbrev pub handed : {E : Type 0} → (E → Failure) → Result ℕ (Stop E) → Answer
handed f (Ok status) = Ok status
handed f (Err e) = Err (failure_as f e)

-- a refusal that many commands have
abbrev pub shared_failure : Reason → Failure
shared_failure e = Refused (reason_refusal e)

-- of one that draws, or takes a program from the text of this file
abbrev pub drawing_failure : List ℕ → DrawingReason → Failure
drawing_failure text (drawing.Common e) = shared_failure e
drawing_failure text drawing.NotTaken = NotTaken
drawing_failure text (drawing.TakesAway boards) = TakesAway boards
drawing_failure text (drawing.BadText bad) = BadText text bad.line bad.column

-- a word of these that may not be there
abbrev pub wrong_word : List (List ℕ) → WrongWord → Failure
wrong_word words bad = BadWord (slice_get words bad.at) bad.expected

-- of `set` with these words
abbrev pub set_failure : List (List ℕ) → SetReason → Failure
set_failure words (setting.Common e) = shared_failure e
set_failure words (setting.BadWord bad) = wrong_word words bad

-- what a command answered is handed on so
abbrev pub Handed : {X E : Type 0} → (Result X E → Answer) → (Result X E → Type 0) → Answer → Type 0
Handed hand Comes answer = (r : _) × Comes r × (answer ≡ hand r)
