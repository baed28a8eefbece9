-- A command that reads edit files one after the other, and tells something of their set of edits.
use Rattle.zed_op.specs.declared.op.Edit.{Edit}
use Rattle.zed_driver.specs.declared.command.Stop.{Stop}
use Rattle.zed_driver.specs.declared.command.Stop.TheVariants.{Memory}
use Rattle.zed_driver.specs.declared.input.Input.{Input}
use Rattle.zed_driver.specs.declared.input.Input.TheVariants.{Bytes}
use Rattle.zed_driver.specs.Effects.{Effect, prints}
use Rattle.zed_refusal.specs.declared.reason.Reason.{Reason}
use Rattle.std.specs.Prelude.{◌≡◌, ◌⊎◌, ◌-◌, ◌++◌, ◌∷◌, [], ℕ, List, Option, Some, None, Result, Ok, Err, length, slice_get}
use Rattle.zed_files.specs.Files.{WantsMemory}
use Rattle.zed_files.specs.Gathers.{Gathers, GathersTo}

-- after files of which none is refused it reads the next one
abbrev pub FilesWant : List (List ℕ) → List Input → List ℕ → Type 0
FilesWant names files name =
    (es : List Edit) × (world : Option ℕ) × Gathers None files es world None × (slice_get names (length files) ≡ Some name)

-- what is told of a set of edits, unless there is none
abbrev pub told_of : (List Edit → Result Effect (Stop Reason)) → Result (List Edit) (Stop Reason) → Result Effect (Stop Reason)
told_of tells (Ok es) = tells es
told_of tells (Err e) = Err e

-- memory may be lacking for the last of these files, which is there, behind others of which none is refused; or for what is told of the set of
-- edits that they come to
abbrev pub FilesLack : List (List ℕ) → List Input → Type 0
FilesLack names files =
    ((before : List Input) × (bytes : List ℕ) × (es : List Edit) × (world : Option ℕ)
    × (files ≡ before ++ Bytes bytes ∷ []) × Gathers None before es world None × WantsMemory world bytes)
    ⊎ ((set : List Edit) × GathersTo names files (Ok set))

-- it comes to what is told of the set of edits that its files come to; or memory is lacking
abbrev pub FilesCome : (List Edit → Result Effect (Stop Reason)) → List (List ℕ) → List Input → Result Effect (Stop Reason) → Type 0
FilesCome tells names files r =
    ((set : Result (List Edit) (Stop Reason)) × GathersTo names files set × (r ≡ told_of tells set)) ⊎ ((r ≡ Err Memory) × FilesLack names files)

-- a text is printed with status 0, unless there is none
abbrev pub printed_as : Result (List ℕ) (Stop Reason) → Result Effect (Stop Reason)
printed_as (Ok text) = Ok (prints text 0)
printed_as (Err e) = Err e

-- ---- for the proof

-- the name of the next file, where so many were read
abbrev pub next_of : List (List ℕ) → ℕ → Option (Stop Reason) → Option (List ℕ)
next_of names count (Some refusal) = None
next_of names count None = slice_get names count

-- how many are left at most
abbrev pub left_of : List (List ℕ) → ℕ → ℕ
left_of names count = length names - count
