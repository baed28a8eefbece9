-- What edit files come to, one after the other, as a command was given them.
use Rattle.zed_types.specs.declared.stamp.Stamp.{Stamp}
use Rattle.zed_op.specs.declared.op.Edit.{Edit}
use Rattle.zed_editfile.specs.declared.error.EditFileError.{EditFileError}
use Rattle.zed_driver.specs.declared.command.Stop.{Stop}
use Rattle.zed_driver.specs.declared.command.Stop.TheVariants.{File, Refused}
use Rattle.zed_driver.specs.declared.input.Input.{Input}
use Rattle.zed_driver.specs.declared.input.Input.TheVariants.{Bytes, Missing, Failed}
use Rattle.zed_refusal.specs.declared.reason.Reason.{Reason}
use Rattle.zed_refusal.specs.declared.reason.Reason.TheVariants.{Clash, NoWorld}
use Rattle.std.specs.Prelude.{◌≡◌, ◌⊎◌, ◌≤◌, ◌++◌, ℕ, true, List, [], ◌∷◌, Option, Some, None, Result, Ok, Err, is_some, length}
use Rattle.zed_op.specs.Set.{Agrees, AllFit, set_of}
use Rattle.zed_document.specs.Delivery.{IsFirstClash}
use Rattle.zed_link.specs.Feed.{FeedState}
use Rattle.zed_refusal.specs.Stops.{file_stop}
use Rattle.zed_files.specs.Collected.{CameInto, world_in}
use Rattle.zed_files.specs.Files.{IsFile}

-- files spell these edits, one file after the other, each of the world asked for, which is the first one's; where the last is refused, so is this
abbrev pub Gathers : Option ℕ → List Input → List Edit → Option ℕ → Option (Stop Reason) → Type 0
Gathers asked [] es world refusal = (es ≡ []) × (world ≡ asked) × (refusal ≡ None)
Gathers asked (Bytes bytes ∷ files) es world refusal =
    ((e : EditFileError) × IsFile asked bytes es (Err e) × (refusal ≡ Some (file_stop e)) × (files ≡ []))
    ⊎ ((own : List Edit) × (more : List Edit) × (n : ℕ) × IsFile asked bytes own (Ok n) × Gathers (Some n) files more world refusal × (es ≡ own ++ more))
Gathers asked (Missing ∷ files) es world refusal = (es ≡ []) × (refusal ≡ Some File) × (files ≡ [])
Gathers asked (Failed ∷ files) es world refusal = (es ≡ []) × (refusal ≡ Some File) × (files ≡ [])

-- all files of these names were read, or the last one is refused, behind which none is read
abbrev pub AreAll : List (List ℕ) → List Input → Option (Stop Reason) → Type 0
AreAll names files refusal = (is_some refusal ≡ true) ⊎ (length names ≤ length files)

-- why there is no set of edits, if there is none: a clash, the refusal of a file, or that there is no file, and so no world
abbrev pub first_stop : Option Stamp → Option (Stop Reason) → Option ℕ → Option (Stop Reason)
first_stop (Some c) refusal world = Some (Refused (Clash c))
first_stop None (Some e) world = Some e
first_stop None None None = Some (Refused NoWorld)
first_stop None None (Some n) = None

-- why it stopped, if it did
abbrev pub stop_in : {X : Type 0} → Result X (Stop Reason) → Option (Stop Reason)
stop_in (Ok x) = None
stop_in (Err e) = Some e

-- the set of these edits, unless there is none
abbrev pub set_or : Option (Stop Reason) → List Edit → Result (List Edit) (Stop Reason)
set_or None es = Ok (set_of es)
set_or (Some e) es = Err e

-- the first two of these edits that clash, if two do
abbrev pub IsClash : List Edit → Option Stamp → Type 0
IsClash es None = Agrees es
IsClash es (Some c) = IsFirstClash es c

-- the set of edits that the files of these names come to; or what comes first, a clash of two edits before the refusal of a file
abbrev pub GathersTo : List (List ℕ) → List Input → Result (List Edit) (Stop Reason) → Type 0
GathersTo names files set =
    (es : List Edit) × (world : Option ℕ) × (refusal : Option (Stop Reason)) × (clash : Option Stamp)
    × Gathers None files es world refusal × AreAll names files refusal × IsClash es clash × (set ≡ set_or (first_stop clash refusal world) es)

-- the first of these files was there
abbrev pub BeginsWithBytes : List Input → Type 0
BeginsWithBytes (Bytes bytes ∷ files) = Unit {0}
BeginsWithBytes files = ⊥

-- these files came to this feed, or to this clash
abbrev pub Gathered : List Input → Option FeedState → Option Stamp → Option (Stop Reason) → Type 0
Gathered files feed clash refusal =
    (es : List Edit) × AllFit es × Gathers None files es (world_in feed) refusal × CameInto es feed clash
