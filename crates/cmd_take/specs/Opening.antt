-- What `open` comes to.
use Rattle.zed_types.specs.declared.stamp.Stamp.{Stamp}
use Rattle.zed_types.specs.Stamp.{before}
use Rattle.zed_op.specs.declared.op.Edit.{Edit}
use Rattle.zed_export.specs.declared.error.ExportError.{ExportError}
use Rattle.cmd_take.specs.declared.base.Presence.TheVariants.{Optional}
use Rattle.cmd_take.specs.declared.reason.DrawingReason.TheVariants.{NotTaken}
use Rattle.cmd_take.specs.declared.opening.Forcing.{Forcing}
use Rattle.cmd_take.specs.declared.opening.Forcing.TheVariants.{Careful, Forced}
use Rattle.std.specs.Prelude.{◌≡◌, ◌≢◌, ◌⊎◌, ℕ, List, [], ◌∷◌, filter, length, not, Option, Some, None, Result, Ok, Err, ⊤}
use Rattle.zed_world.specs.Contents.{Contents}
use Rattle.zed_world.specs.Reading.{world_at}
use Rattle.zed_driver.specs.declared.command.Stop.TheVariants.{File, Refused}
use Rattle.zed_driver.specs.declared.input.Input.{Input}
use Rattle.zed_driver.specs.declared.input.Input.TheVariants.{Bytes, Missing, Failed}
use Rattle.zed_driver.specs.Effects.{Effect, effect, output}
use Rattle.zed_driver.specs.Reading.{Wanting}
use Rattle.zed_edit.specs.Replay.{replay}
use Rattle.zed_export.specs.Limits.{exported, saved}
use Rattle.zed_export.specs.World.{world_of}
use Rattle.zed_editfile.specs.Spelling.{file_text}
use Rattle.zed_take.specs.Taken.{Shows}
use Rattle.zed_files.specs.Lines.{bytes_line}
use Rattle.zed_files.specs.Opened.{FileEdits}
use Rattle.zed_refusal.specs.Stops.{export_stop}
use Rattle.cmd_take.specs.Base.{BaseAsks, BaseReads, beside, edits_of_base}
use Rattle.cmd_take.specs.Files.{IsWorld, OpensAs}
use Rattle.cmd_take.specs.Stops.{DrawingStop, drawing_stop}
use Rattle.cmd_take.specs.Steps.{Asks, AsksNoMore, Coming, Does, Ends, OrLacks, Reads, Steps}

-- the edits up to a stamp, those of that stamp and of earlier ones; all of them where none is given
abbrev pub up_to : Option Stamp → List Edit → List Edit
up_to None es = es
up_to (Some last) es = filter (λ e. not (before last e.stamp)) es

-- an exported value, or the refusal of the export
abbrev pub export_told : {X : Type 0} → Result X ExportError → Result X DrawingStop
export_told (Ok x) = Ok x
export_told (Err e) = Err (drawing_stop (export_stop e))

-- the bytes of the world file of some edits, of at most 32,767 bytes a body, or the first refusal
abbrev pub IsExported : List Edit → Result (List ℕ) DrawingStop → Type 0
IsExported es r = r ≡ export_told (saved 32767 (replay es))

-- the bytes of a file are those of the world that edits show, and read as that world
abbrev pub IsSaved : List Edit → List ℕ → Type 0
IsSaved es bytes = (saved 32767 (replay es) ≡ Ok bytes) × (world_at bytes ≡ Ok (world_of (replay es)))

-- a world is the one that was exported, or it was drawn in; the export may have been refused
abbrev pub IsSame : Contents → Result Contents ExportError → Result ⊤ DrawingStop → Type 0
IsSame w (Ok v) r = ((v ≡ w) × (r ≡ Ok tt)) ⊎ ((v ≢ w) × (r ≡ Err (Refused NotTaken)))
IsSame w (Err e) r = r ≡ Err (drawing_stop (export_stop e))

-- WORLD gets these bytes, and the base beside it all edits of FILE
abbrev pub opened_as : List ℕ → FileEdits → List ℕ → Effect
opened_as world f bytes =
    effect (output world bytes ∷ output (beside world) (file_text f.0 f.1) ∷ []) (Some (bytes_line (length bytes))) 0

-- that is done
abbrev pub IsWritten : List ℕ → FileEdits → List ℕ → Result Effect DrawingStop → Type 0
IsWritten world f bytes r = r ≡ Ok (opened_as world f bytes)

-- it is done if WORLD shows what this base of FILE shows
abbrev pub WritesOver : List ℕ → FileEdits → List ℕ → Contents → Option (List Edit) → Result Effect DrawingStop → Type 0
WritesOver world f bytes w b r =
    Steps (IsSame w (exported 32767 (replay (edits_of_base b f.1)))) (λ _. IsWritten world f bytes) r

-- what WORLD is read as, which may be missing
abbrev pub TriedWorld : Input → Result (Option Contents) DrawingStop → Type 0
TriedWorld (Bytes bytes) r = Steps (IsWorld bytes) (λ w r. r ≡ Ok (Some w)) r
TriedWorld Missing r = r ≡ Ok None
TriedWorld Failed r = r ≡ Err File

-- what comes of WORLD; where it is there, nothing may be drawn in it: these edits show it, which are to be written; or those of its base do, which is read for that
abbrev pub FoundReads : FileEdits → List Edit → List ℕ → List ℕ → List ℕ → Option Contents → List Input → Result Effect DrawingStop → Type 0
FoundReads f shown file world bytes None files r = Ends (IsWritten world f bytes) files r
FoundReads f shown file world bytes (Some w) files r =
    (Shows shown w × Ends (IsWritten world f bytes) files r)
    ⊎ ((Shows shown w → ⊥) × BaseReads Optional (beside world) file f.0 (λ b. Ends (WritesOver world f bytes w b)) files r)

-- these bytes are written over WORLD if nothing was drawn in it, for which it is read; or that is forced
abbrev pub Replaces : Forcing → FileEdits → List Edit → List ℕ → List ℕ → List ℕ → List Input → Result Effect DrawingStop → Type 0
Replaces Careful f shown file world bytes files r = Reads TriedWorld (FoundReads f shown file world bytes) files r
Replaces Forced f shown file world bytes files r = Ends (IsWritten world f bytes) files r

-- what FILE comes to, up to a stamp
abbrev pub Shown : Option Stamp → Forcing → List ℕ → List ℕ → FileEdits → List Input → Result Effect DrawingStop → Type 0
Shown until forcing file world f files r =
    Does (IsExported (up_to until f.1)) (Replaces forcing f (up_to until f.1) file world) files r

-- what `open` comes to: its effect, or the first refusal
abbrev pub OpenComes : Option Stamp → Forcing → List ℕ → List ℕ → List Input → Result Effect DrawingStop → Type 0
OpenComes until forcing file world files r = OrLacks (Reads (OpensAs None) (Shown until forcing file world)) files r

-- WORLD is there, and is another world than these edits show
abbrev pub ShowsOther : List Edit → Option Contents → Type 0
ShowsOther shown None = ⊥
ShowsOther shown (Some w) = Shows shown w → ⊥

-- the base of WORLD is asked for only if that is needed
abbrev pub NeedsBase : FileEdits → List Edit → List ℕ → List ℕ → Option Contents → List Input → List ℕ → Type 0
NeedsBase f shown file world found files wanted =
    ShowsOther shown found × BaseAsks Optional (beside world) file f.0 (λ b. AsksNoMore) files wanted

-- WORLD is asked for, unless it is forced that it is written over
abbrev pub LookAsks : Forcing → FileEdits → List Edit → List ℕ → List ℕ → List Input → List ℕ → Type 0
LookAsks Careful f shown file world files wanted = Asks world TriedWorld (NeedsBase f shown file world) files wanted
LookAsks Forced f shown file world files wanted = ⊥

-- where these edits are to be written: WORLD is asked for only if they can be exported, and its base only if that is needed
abbrev pub ShownAsks : Forcing → FileEdits → List Edit → List ℕ → List ℕ → List Input → List ℕ → Type 0
ShownAsks forcing f shown file world files wanted =
    ((text : List ℕ) × IsExported shown (Ok text)) × LookAsks forcing f shown file world files wanted

-- what `open` asks for: FILE, and what is needed for its edits up to the stamp
abbrev pub OpenWants : Option Stamp → Forcing → List ℕ → List ℕ → List Input → List ℕ → Type 0
OpenWants until forcing file world files wanted =
    Asks file (OpensAs None) (λ f. ShownAsks forcing f (up_to until f.1) file world) files wanted
