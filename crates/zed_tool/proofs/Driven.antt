-- What comes of commands that a driver carries out, and of a playtest.
use Rattle.std.proofs.Common.{◌≡◌, ◌≤◌, ◌∙◌, ℕ, true, List, Option, Result, Ok, Err, ap, arith, refl, subst, sym, inl, inr}
use Rattle.std.specs.Prelude.{⊤, ◌⊎◌}
use Rattle.zed_host.specs.Counting.{Rose}
use Rattle.zed_host.specs.HostContents.{HostContents}
use Rattle.zed_driver.specs.declared.command.Stop.{Stop}
use Rattle.zed_driver.specs.declared.command.Stop.TheVariants as stop
use Rattle.zed_driver.specs.Driven as driver
use Rattle.zed_driver.specs.Driven.{Coming, Drives, some_lacks}
use Rattle.zed_driver.specs.Hosts.{Hosts}
use Rattle.zed_driver.specs.Reading as reading
use Rattle.zed_driver.specs.Reading.{Wanting, files_of}
use Rattle.zed_files.specs.Faults.{TellsFailures as TellsPlaying}
use Rattle.zed_files.specs.declared.refusal.Refusal.{Refusal}
use Rattle.zed_files.specs.declared.refusal.Refusal.TheVariants as refusal
use Rattle.cmd_play.specs.Led.{Led}
use Rattle.zed_tool.specs.Answers.{Answer, Failure, Refused, failure_as, file_failed, handed, told_as}
use Rattle.zed_tool.specs.Commands.{Driven}
use Rattle.zed_tool.specs.Driving.{Carried, Driving, TellsFailures}
use Rattle.zed_tool.specs.Outcome.{Acted}

-- no refusal of a command is told as a file that can't be had
abbrev pub NeverFile : {E : Type 0} → (E → Failure) → Type 0
NeverFile {E} f = (e : E) → f e ≡ file_failed → ⊥

-- a command tells of such a file only if it was given one
abbrev pub TellsLacks : {E : Type 0} → Coming E → Type 0
TellsLacks Comes = (rs : List reading.Answer) → Comes (files_of rs) (Err stop.File) → some_lacks rs ≡ true

pub refused_is : (e f : Refusal) → Refused e ≡ Refused f → e ≡ f
refused_is e f h = cc

stop_is : {E : Type 0} (f : E → Failure) (e : Stop E) → NeverFile f → failure_as f e ≡ file_failed → e ≡ stop.File
stop_is f stop.Memory never is = absurd (let no : refusal.Memory ≡ refusal.File = refused_is refusal.Memory refusal.File is in cc)
stop_is f stop.File never is = refl
stop_is f (stop.Refused e) never is = absurd (never e is)

driven_tells : {H E : Type 0} (h : Hosts H) (Wants : Wanting) (Comes : Coming E) (f : E → Failure) (r : Result ℕ (Stop E)) (old new : H) → NeverFile f
    → TellsLacks Comes → driver.Driven h Wants Comes r old new → TellsFailures h.faults h.failed (handed f r) old new
driven_tells h Wants Comes f (Ok status) old new never lacks is = (is.faults, is.failed, tt)
driven_tells h Wants Comes f (Err e) old new never lacks is = (is.faults, is.failed, λ lost. is.file_only_when lacks (stop_is f e never lost))

-- what the driver says of a command, as its answer is handed on
pub carried : {H : Type 0} (h : Hosts H) (d : Driving) (r : Result ℕ (Stop d.refusal)) (answer : Answer) (old new : H) → NeverFile d.failure
    → TellsLacks d.comes → answer ≡ handed d.failure r
    → Drives h d.wants d.comes r old new → driver.Driven h d.wants d.comes r old new → Carried h d answer old new
carried h d r answer old new never lacks same steps is = record {
  ends = λ t at. (r, is.ends t at, same);
  asked = (r, is.asked, same);
  steps = (r, steps, same);
  failures = subst (λ a. TellsFailures h.faults h.failed a old new) (sym same) (driven_tells h d.wants d.comes d.failure r old new never lacks is);
}

-- it acted so
pub acted : {H : Type 0} (h : Hosts H) (moved : Led) (d : Driving) (answer : Answer) (old new : H) → Carried h d answer old new
    → Acted h moved (Driven d) answer old new
acted h moved d answer old new is = record { ends = is.ends; asked = is.asked; steps = is.steps; failures = is.failures }

-- ---- a playtest

told_failures : {H : Type 0} (faults failed : H → ℕ) (r : Result ⊤ Refusal) (old new : H) → TellsPlaying faults failed r old new
    → TellsFailures faults failed (told_as r) old new
told_failures faults failed (Ok u) old new tells = (tells.0.0, tells.0.1, tt)
told_failures faults failed (Err e) old new tells = (tells.0.0, tells.0.1, λ is. tells.1 (refused_is e refusal.File is))

-- a failure of the host is told of as such
pub told_tells : {H : Type 0} (faults failed : H → ℕ) (r : Result ⊤ Refusal) (answer : Answer) (old new : H) → answer ≡ told_as r
    → TellsPlaying faults failed r old new
    → TellsFailures faults failed answer old new
told_tells faults failed r answer old new is tells =
    subst (λ a. TellsFailures faults failed a old new) (sym is) (told_failures faults failed r old new tells)
