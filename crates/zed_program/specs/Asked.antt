-- What `run` asks of its host.
use Rattle.zed_files.specs.declared.refusal.Refusal.{Refusal}
use Rattle.zed_files.specs.declared.refusal.Refusal.TheVariants.{Memory}
use Rattle.std.specs.Prelude.{◌≡◌, ◌⊎◌, ℕ, Bool, List, [], ◌∷◌, Option, Some, None}
use Rattle.zed_driver.specs.Hosts.{Hosts}
use Rattle.zed_files.specs.Asked.{Asks, reading, writing}
use Rattle.zed_host.specs.Calls.{Call, Complaining, Printing, call}
use Rattle.zed_files.specs.Lines.{line_of}
use Rattle.zed_program.specs.Ends.{AsksUnder, StepsUnder}
use Rattle.zed_program.specs.Outcome.{SaysRefused}
use Rattle.zed_program.specs.Under.{ComesOf, WantsOf}
use Rattle.zed_words.specs.Commands.{Command, Merge, Show, Play}

-- the calls of a command that tells this refusal, or none
abbrev pub AsksCommand : {H : Type 0} → (H → Call → H → Type 0) → Command → Option Refusal → H → H → Type 0
AsksCommand called (Merge out world files) told old new = Asks called [] (writing out) told old new
AsksCommand called (Show profile board files) told old new = Asks called (reading files) [] told old new
AsksCommand called (Play profile board chance files) told old new = Asks called (reading (chance ∷ files)) (Printing ∷ []) told old new
AsksCommand called command told old new = AsksUnder called (WantsOf command) (ComesOf command) told old new

-- the steps of a command under the driver that tells this refusal, or none; of one that calls devices this says nothing
abbrev pub StepsCommand : {H : Type 0} → Hosts H → Command → Option Refusal → H → H → Type 0
StepsCommand h (Merge out world files) told old new = Unit {0}
StepsCommand h (Show profile board files) told old new = Unit {0}
StepsCommand h (Play profile board chance files) told old new = Unit {0}
StepsCommand h command told old new = StepsUnder h (WantsOf command) (ComesOf command) told old new

-- one call, to write this to the standard error
abbrev pub ComplainsOf : {H : Type 0} → (H → Call → H → Type 0) → List ℕ → H → H → Type 0
ComplainsOf called text old new = (failed : Bool) × called old (call (Complaining text) failed) new

-- the same of the line of a refusal
abbrev pub Complains : {H : Type 0} → (H → Call → H → Type 0) → Refusal → H → H → Type 0
Complains called e old new = ComplainsOf called (line_of e) old new

-- with status 0 all calls of the command and no others; with status 1 those that were made before it was refused, and the one that tells of
-- the refusal, or the one alone that tells that memory ran out for the words. Where words are refused, the one that tells of that
abbrev pub RunAsks : {H : Type 0} → (H → Call → H → Type 0) → Option Command → ℕ → H → H → Type 0
RunAsks called (Some command) status old new =
    ((status ≡ 0) × AsksCommand called command None old new)
    ⊎ ((status ≡ 1) × ((e : Refusal) × (mid : _) × AsksCommand called command (Some e) old mid × Complains called e mid new))
    ⊎ ((status ≡ 1) × Complains called Memory old new)
RunAsks called None status old new = (text : List ℕ) × SaysRefused status text × ComplainsOf called text old new

-- with status 0 a command went through all its steps; with status 1 it was refused at one of them, and the line of that is told, or memory ran out for
-- the words
abbrev pub RunSteps : {H : Type 0} → Hosts H → Option Command → ℕ → H → H → Type 0
RunSteps h (Some command) status old new =
    ((status ≡ 0) × StepsCommand h command None old new)
    ⊎ ((status ≡ 1) × ((e : Refusal) × (mid : _) × StepsCommand h command (Some e) old mid × Complains h.called e mid new))
    ⊎ ((status ≡ 1) × Complains h.called Memory old new)
RunSteps h None status old new = Unit {0}
