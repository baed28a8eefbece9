-- How a run ends where its host doesn't fail.
use Rattle.zed_files.specs.declared.refusal.Refusal.{Refusal}
use Rattle.std.specs.Prelude.{◌≡◌, ◌⊎◌, ℕ, Option, Some, Result, Ok, Err}
use Rattle.zed_terminal.specs.Course.{Point}
use Rattle.zed_host.specs.HostContents.{HostContents, with_complaint}
use Rattle.zed_driver.specs.declared.command.Stop.{Stop}
use Rattle.zed_driver.specs.Driven.{ComesIn}
use Rattle.zed_driver.specs.Effects.{Effect, after, with_note}
use Rattle.cmd_play.specs.Ending.{IsPlayed, Request, told_after}
use Rattle.cmd_play.specs.Led.{Led}
use Rattle.zed_tool_words.specs.Commands.{Command}
use Rattle.zed_tool.specs.Answers.{Failure, Refused, failure_as, memory}
use Rattle.zed_tool.specs.Commands.{Course, Driven, Played, course_of}
use Rattle.zed_tool.specs.Lines.{line_of}

-- a status with what the host holds then, or why the command was not carried out
abbrev pub Ending : Type 0
Ending = Result (ℕ × HostContents) Failure

-- after the effect of a command that a driver carries out, or its refusal
abbrev pub left_by : {E : Type 0} → (E → Failure) → HostContents → Result Effect (Stop E) → Ending
left_by f t (Ok x) = Ok (x.status, with_note x.note (after x t))
left_by f t (Err e) = Err (failure_as f e)

-- of `play`, with devices that were led so
abbrev pub play_left : HostContents → Request → Led → Result Point Refusal → Ending
play_left t q moved (Ok p) = Ok (0, told_after q moved p t)
play_left t q moved (Err e) = Err (Refused e)

-- what leads to an ending
abbrev pub Leaves : {X E : Type 0} → (Result X E → Ending) → (Result X E → Type 0) → Ending → Type 0
Leaves end Comes ending = (x : _) × Comes x × (ending ≡ end x)

-- what a command comes to, with devices that were led so: a status with what its host holds then, or the first refusal
abbrev pub ComesTo : Type 0 → HostContents → Led → Course → Ending → Type 0
ComesTo failed t moved (Driven d) ending = Leaves (left_by d.failure t) (ComesIn failed t d.wants d.comes) ending
ComesTo failed t moved (Played q) ending = Leaves (play_left t q moved) (IsPlayed failed t q moved) ending

-- the status, and what the host holds then; a refusal has status 1 and a line
abbrev pub HasStatus : Ending → HostContents → ℕ → Option HostContents → Type 0
HasStatus (Ok (own, u)) t status new = (status ≡ own) × (new ≡ Some u)
HasStatus (Err e) t status new = (status ≡ 1) × (new ≡ Some (with_complaint (line_of e) t))

-- a command ends so where its host didn't fail; memory may run out
abbrev pub EndsCalmly : HostContents → Led → Command → ℕ → Option HostContents → Type 0
EndsCalmly t moved command status new =
    ((ending : Ending) × ComesTo ⊥ t moved (course_of command) ending × HasStatus ending t status new)
    ⊎ HasStatus (Err memory) t status new
