-- What `open` asks for and comes to from each of its stages on.
use Rattle.std.specs.Prelude.{◌≡◌, ℕ, false, List, [], ◌∷◌, Option, Some, None, Result, Ok, Err, MatchResult, string_bytes}
use Rattle.zed_types.specs.declared.stamp.Stamp.{Stamp}
use Rattle.zed_driver.specs.declared.input.Input.{Input}
use Rattle.zed_driver.specs.Effects.{Effect}
use Rattle.zed_driver.specs.Reading.{Wanting}
use Rattle.cmd_take.specs.declared.base.Presence.TheVariants.{Optional}
use Rattle.cmd_take.specs.declared.opening.Forcing.{Forcing}
use Rattle.cmd_take.specs.declared.stages.OpenStage.{OpenStage}
use Rattle.cmd_take.specs.declared.stages.OpenStage.TheVariants.{Begun, Exported, Compared, Done}
use Rattle.cmd_take.specs.Base.{BaseOf}
use Rattle.cmd_take.specs.Opening.{FoundReads, IsSaved, NeedsBase, OpenComes, OpenWants, TriedWorld, WritesOver, up_to}
use Rattle.cmd_take.specs.Steps.{Asks, AsksNoMore, Coming, Ends, IsLed, OrMemory, Reads}
use Rattle.cmd_take.specs.Stops.{DrawingStop}
use Rattle.cmd_take.specs.TakeStages.{file_of}

-- what is still asked for
abbrev pub OpenWantsNow : Option Stamp → Forcing → List ℕ → List ℕ → OpenStage → List Input → List ℕ → Type 0
OpenWantsNow until forcing file world Begun files wanted = OpenWants until forcing file world files wanted
OpenWantsNow until forcing file world (Exported d text) files wanted =
    Asks world TriedWorld (NeedsBase (file_of d) (up_to until d.edits) file world) files wanted
OpenWantsNow until forcing file world (Compared d text found name) files wanted =
    Asks (string_bytes name) (BaseOf Optional d.world) (λ o. AsksNoMore) files wanted
OpenWantsNow until forcing file world (Done x) files wanted = ⊥

-- what is still come to
abbrev pub OpenComesNow : Option Stamp → Forcing → List ℕ → List ℕ → OpenStage → List Input → Result Effect DrawingStop → Type 0
OpenComesNow until forcing file world Begun files r = OpenComes until forcing file world files r
OpenComesNow until forcing file world (Exported d text) files r =
    OrMemory (Reads TriedWorld (FoundReads (file_of d) (up_to until d.edits) file world text.items)) files r
OpenComesNow until forcing file world (Compared d text found name) files r =
    OrMemory (Reads (BaseOf Optional d.world) (λ o. Ends (WritesOver world (file_of d) text.items found o))) files r
OpenComesNow until forcing file world (Done x) files r = (files ≡ []) × (r ≡ Ok x)

-- the document that was read isn't stale, and the text is that of its edits that are to be written
abbrev pub IsSoundIn : Option Stamp → OpenStage → Type 0
IsSoundIn until (Exported d text) = (d.is_stale ≡ false) × IsSaved (up_to until d.edits) text.items
IsSoundIn until (Compared d text found name) = d.is_stale ≡ false
IsSoundIn until _ = Unit {0}

-- the file that is read next
abbrev pub open_next : List ℕ → List ℕ → OpenStage → Option (List ℕ)
open_next file world Begun = Some file
open_next file world (Exported d text) = Some world
open_next file world (Compared d text found name) = Some (string_bytes name)
open_next file world (Done x) = None

-- how many files are still read at most
abbrev pub open_left : OpenStage → ℕ
open_left Begun = 3
open_left (Exported d text) = 2
open_left (Compared d text found name) = 1
open_left (Done x) = 0

-- what is asked for and come to behind these files goes on from a stage, or is refused
abbrev pub OpenLeads : Option Stamp → Forcing → List ℕ → List ℕ → List Input → Wanting → Coming → Result OpenStage DrawingStop → Type 0
OpenLeads until forcing file world files Wants Comes result = MatchResult result
    (λ s. IsSoundIn until s × IsLed files Wants Comes (OpenWantsNow until forcing file world s) (OpenComesNow until forcing file world s))
    (λ e. Comes files (Err e))

-- by one file more it goes on from another stage
abbrev pub OpenGoesOn : Option Stamp → Forcing → List ℕ → List ℕ → OpenStage → Input → Result OpenStage DrawingStop → Type 0
OpenGoesOn until forcing file world stage i result =
    OpenLeads until forcing file world (i ∷ []) (OpenWantsNow until forcing file world stage) (OpenComesNow until forcing file world stage) result
