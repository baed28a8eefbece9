-- What a command leaves in its host, and what `run` does. `failed` says that the device failed meanwhile.
use Rattle.zed_files.specs.declared.refusal.Refusal.{Refusal}
use Rattle.zed_files.specs.declared.refusal.Refusal.TheVariants.{File, Memory, TooManyTurns}
use Rattle.std.specs.Prelude.{◌≡◌, ◌≤◌, ◌<◌, ◌⊎◌, ℕ, List, Option, Some, None, Result, Ok, Err, length, string_bytes, ⊤}
use Rattle.zed_program.specs.Devices.{Devices}
use Rattle.zed_program.specs.Limit.{limit_of}
use Rattle.zed_files.specs.Lines.{line_of}
use Rattle.zed_words.specs.declared.words.ParseError.{ParseError}
use Rattle.zed_words.specs.declared.words.ParseError.TheVariants as parse
use Rattle.zed_host.specs.Counting.{Rose}
use Rattle.zed_host.specs.HostContents.{HalfComplained, HostContents, StillTells, with_complaint}
use Rattle.zed_words.specs.Commands.{Command, Merge, Show, Play}
use Rattle.zed_driver.specs.Effects.{Effect, after as left_by}
use Rattle.zed_program.specs.Merged.{ComesToMerge, LacksForMerge, MadeMostReads}
use Rattle.cmd_show.specs.Shown.{ComesToShow, ComesToPlay, LacksForPlay}
use Rattle.zed_program.specs.Ends.{ComesBeside, ComesUnder, Ends, IsRefused}
use Rattle.zed_program.specs.Under.{ComesOf, WantsOf}

-- what a command comes to, by what its devices tell before it and then: its effect, or the first refusal
abbrev pub ComesTo : Type 0 → Devices → Devices → Command → HostContents → Result Effect Refusal → Type 0
ComesTo failed old new (Merge out world files) t r = ComesBeside (ComesToMerge old.links new.links out world (length files)) r
ComesTo failed old new (Show profile board files) t r =
    ComesBeside (ComesToShow failed old.stage new.stage t (limit_of profile) board files) r
ComesTo failed old new (Play profile board chance files) t r =
    ComesBeside (ComesToPlay failed old.stage new.stage t (limit_of profile) board chance files) r
ComesTo failed old new command t r = ComesUnder failed t (WantsOf command) (ComesOf command) r

-- a text is on the standard error, or the host failed at it
abbrev pub IsComplained : Type 0 → List ℕ → HostContents → Option HostContents → Type 0
IsComplained failed text t new =
    (new ≡ Some (with_complaint text t)) ⊎ (failed × StillTells (HalfComplained text t) new)

-- the user is told of a refusal, by its line
abbrev pub IsTold : Type 0 → Refusal → HostContents → Option HostContents → Type 0
IsTold failed e t new = IsComplained failed (line_of e) t new

-- what is told of why words ask for nothing, and the status: a text that isn't empty where they are refused, and that memory ran out where it did
abbrev pub SaysWhy : ParseError → ℕ → List ℕ → Type 0
SaysWhy parse.Memory status text = (status ≡ 1) × (text ≡ line_of Memory)
SaysWhy (parse.Refused why) status text = (status ≡ 2) × (text ≡ string_bytes why)

-- the same of words that are refused, whether memory ran out for their text or not
abbrev pub SaysRefused : ℕ → List ℕ → Type 0
SaysRefused status text = ((status ≡ 2) × (0 < length text)) ⊎ ((status ≡ 1) × (text ≡ line_of Memory))

-- what is so where a command is refused for too many turns: a link of a merge made as many reads as a pull may make
abbrev pub HasTurned : Devices → Devices → Command → Type 0
HasTurned old new (Merge out world files) = MadeMostReads old.links new.links
HasTurned old new command = Unit {0}

-- what is so where a command lacks memory: no link of a merge was called, or memory ran out in a pull or behind the last one; a board wasn't
-- shown; and of `play` the stage is as it was, or a playtest came to that
abbrev pub HasLacked : Type 0 → Devices → Devices → Command → HostContents → Type 0
HasLacked failed old new (Merge out world files) t =
    (new.links ≡ old.links) ⊎ LacksForMerge old.links new.links world (length files)
HasLacked failed old new (Show profile board files) t = new.stage ≡ old.stage
HasLacked failed old new (Play profile board chance files) t =
    LacksForPlay failed old.stage new.stage t (limit_of profile) board chance files
HasLacked failed old new command t = Unit {0}

-- so a command ends, with this in its host, and its devices so
abbrev pub EndsCommand : Type 0 → Devices → Devices → Command → HostContents → Result ⊤ Refusal → Option HostContents → Type 0
EndsCommand failed old new command t result left =
    Ends failed (ComesTo failed old new command t) t result left × (result ≡ Err Memory → HasLacked failed old new command t)

-- the status of a command that answers this
abbrev pub status_of : Result ⊤ Refusal → ℕ
status_of (Ok u) = 0
status_of (Err e) = 1

-- a command is refused and the user is told; the faults are counted from `old`, to `middle` before the
-- user is told, and to `now`; and `counted` says that the host counts a call more that failed, which `File` shows; too many turns of a
-- merge are shown by its links, and want of memory by these or by the stage
pub record RefusedRun (before after : Devices) (command : Command) (t : HostContents) (old now : ℕ) (counted : Type 0) (new : Option HostContents) : Type 0 where
  pub refusal : Refusal
  pub left : HostContents
  pub middle : ℕ
  pub refused : IsRefused (Rose old middle) (ComesTo (Rose old middle) before after command t) t refusal left
  pub told : IsTold (Rose middle now) refusal left new
  pub rises : (old ≤ middle) × (middle ≤ now)
  pub file_only_when : refusal ≡ File → counted
  pub turns_only_when : refusal ≡ TooManyTurns → HasTurned before after command
  pub memory_only_when : refusal ≡ Memory → HasLacked (Rose old middle) before after command t

-- a command is carried out with status 0, or refused with status 1. Words that are refused change no
-- file; the status is 2, with a text that isn't empty, or 1 where memory ran out
abbrev pub EndsRun : Devices → Devices → Option Command → HostContents → ℕ → ℕ → Type 0 → ℕ → Option HostContents → Type 0
EndsRun before after (Some command) t old now counted status new =
    ((x : Effect) × ComesTo (Rose old now) before after command t (Ok x) × (status ≡ 0) × (new ≡ Some (left_by x t)))
    ⊎ ((status ≡ 1) × RefusedRun before after command t old now counted new)
EndsRun before after None t old now counted status new =
    (text : List ℕ) × SaysRefused status text × IsComplained (Rose old now) text t new

-- the status, and what a host that didn't fail holds then
abbrev pub HasStatus : Result Effect Refusal → HostContents → ℕ → Option HostContents → Type 0
HasStatus (Ok x) t status new = (status ≡ 0) × (new ≡ Some (left_by x t))
HasStatus (Err e) t status new = (status ≡ 1) × (new ≡ Some (with_complaint (line_of e) t))

-- a command ends so where the host didn't fail
abbrev pub EndsCalmly : Devices → Devices → Command → HostContents → ℕ → Option HostContents → Type 0
EndsCalmly before after command t status new =
    ((r : Result Effect Refusal) × ComesTo ⊥ before after command t r × HasStatus r t status new)
    ⊎ HasStatus (Err Memory) t status new
