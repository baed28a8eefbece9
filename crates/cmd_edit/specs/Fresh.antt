-- The world of a new edit file.
use Rattle.zed_types.specs.Limits.{largest_body}
use Rattle.zed_types.specs.Stamp.{genesis_stamp}
use Rattle.zed_op.specs.declared.op.Op.TheVariants.{Genesis}
use Rattle.zed_op.specs.declared.op.Edit.{Edit}
use Rattle.zed_world.specs.declared.error.WorldError.{WorldError}
use Rattle.std.specs.Prelude.{◌≡◌, ◌⊎◌, ℕ, Bool, true, false, List, [], ◌∷◌, Option, Some, None, Result, Ok, Err, is_some}
use Rattle.zed_export.specs.Fresh.{fresh_world}
use Rattle.zed_world.specs.Contents.{Contents}
use Rattle.zed_world.specs.Reading.{BeginsAWorld, world_at}
use Rattle.zed_world.specs.Writing.{HasText, written}
use Rattle.zed_editfile.specs.Spelling.{file_text}
use Rattle.zed_driver.specs.declared.command.Stop.{Stop}
use Rattle.zed_driver.specs.declared.command.Stop.TheVariants.{Memory, File}
use Rattle.zed_driver.specs.declared.input.Input.{Input}
use Rattle.zed_driver.specs.declared.input.Input.TheVariants.{Bytes, Missing, Failed}
use Rattle.zed_driver.specs.Effects.{Effect, writes}
use Rattle.zed_refusal.specs.declared.reason.Reason.{Reason}
use Rattle.zed_refusal.specs.Stops.{world_stop}
use Rattle.zed_files.specs.Lines.{edits_line}

-- what was read, written again
abbrev pub rewritten : Result Contents WorldError → Result (List ℕ) WorldError
rewritten (Ok w) = written largest_body w
rewritten (Err e) = Err e

-- the same, with the refusal of a command
abbrev pub refused_as : Result (List ℕ) WorldError → Result (List ℕ) (Stop Reason)
refused_as (Ok bytes) = Ok bytes
refused_as (Err e) = Err (world_stop e)

-- a name, which is empty where none is given
abbrev pub name_or_none : Option (List ℕ) → List ℕ
name_or_none None = []
name_or_none (Some name) = name

-- the bytes of a new world by its name
abbrev pub made_by : Option (List ℕ) → Result (List ℕ) (Stop Reason)
made_by name = refused_as (written largest_body (fresh_world (name_or_none name)))

-- the bytes of a world file as they are written again, or why there are none
abbrev pub taken_from : Input → Result (List ℕ) (Stop Reason)
taken_from (Bytes bytes) = refused_as (rewritten (world_at bytes))
taken_from Missing = Err File
taken_from Failed = Err File

-- a file that is taken as a world may want memory: to be read, where its front is that of one; or, once it was read, to be written, where no
-- board is over the limit
abbrev pub MayWantMemory : List ℕ → Type 0
MayWantMemory bytes = BeginsAWorld bytes ⊎ ((w : Contents) × (world_at bytes ≡ Ok w) × HasText largest_body w)

-- the edit that makes a world of these bytes
abbrev pub genesis_of : List ℕ → Edit
genesis_of bytes = record { stamp = genesis_stamp; op = Genesis bytes }

-- the edit file of a world of these bytes
abbrev pub first_file : ℕ → List ℕ → List ℕ
first_file world bytes = file_text world (genesis_of bytes ∷ [])

-- an edit file is written that makes a world, with the line that counts its edit
abbrev pub writes_genesis : List ℕ → ℕ → Result (List ℕ) (Stop Reason) → Result Effect (Stop Reason)
writes_genesis out world (Ok bytes) = Ok (writes out (first_file world bytes) (edits_line 1))
writes_genesis out world (Err e) = Err e

-- ---- what `new` reads, and what it comes to

-- it reads the file that a world is taken from, if one is named
abbrev pub NewWants : Option (List ℕ) → List Input → List ℕ → Type 0
NewWants from files name = (files ≡ []) × (from ≡ Some name)

-- the bytes of the world that it makes, by the files that were read: of the one that is named, or by its name alone
abbrev pub IsFirstWorld : Option (List ℕ) → Option (List ℕ) → List Input → Result (List ℕ) (Stop Reason) → Type 0
IsFirstWorld None name [] m = m ≡ made_by name
IsFirstWorld None name (i ∷ files) m = ⊥
IsFirstWorld (Some file) name [] m = ⊥
IsFirstWorld (Some file) name (i ∷ []) m = m ≡ taken_from i
IsFirstWorld (Some file) name (i ∷ j ∷ files) m = ⊥

-- memory may be lacking for a new world, and for a file that is there and may want some
abbrev pub MayLack : List Input → Type 0
MayLack [] = Unit {0}
MayLack (Bytes bytes ∷ files) = MayWantMemory bytes
MayLack (Missing ∷ files) = ⊥
MayLack (Failed ∷ files) = ⊥

-- what it comes to: its effect, or the first refusal
abbrev pub NewComes : List ℕ → ℕ → Option (List ℕ) → Option (List ℕ) → List Input → Result Effect (Stop Reason) → Type 0
NewComes out world from name files r =
    (m : Result (List ℕ) (Stop Reason)) × IsFirstWorld from name files m
    × ((r ≡ writes_genesis out world m) ⊎ ((r ≡ Err Memory) × MayLack files))

-- ---- for the proof

-- the edit file that it holds after these files
abbrev pub NewStands : ℕ → Option (List ℕ) → List Input → Option (List ℕ) → Type 0
NewStands world from [] file = file ≡ None
NewStands world from (i ∷ []) file =
    (is_some from ≡ true) × ((bytes : List ℕ) × (taken_from i ≡ Ok bytes) × (file ≡ Some (first_file world bytes)))
NewStands world from (i ∷ j ∷ files) file = ⊥

-- the file that it reads next
abbrev pub next_of : Option (List ℕ) → Option (List ℕ) → Option (List ℕ)
next_of from (Some file) = None
next_of from None = from

-- how many it still reads at most
abbrev pub left_of : Option (List ℕ) → ℕ
left_of (Some file) = 0
left_of None = 1
