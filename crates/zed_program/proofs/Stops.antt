-- Why commands that call no device stop: `File` comes of a file alone, and no such refusal is of a screen or of a source of keys.
use Rattle.zed_action.specs.declared.error.ActionError.{ActionError}
use Rattle.zed_action.specs.declared.error.ActionError.TheVariants as action
use Rattle.zed_document.specs.declared.error.DocumentError.{DocumentError}
use Rattle.zed_document.specs.declared.error.DocumentError.TheVariants as document
use Rattle.zed_editfile.specs.declared.error.EditFileError.{EditFileError}
use Rattle.zed_editfile.specs.declared.error.EditFileError.TheVariants as file
use Rattle.zed_export.specs.declared.error.ExportError.{ExportError}
use Rattle.zed_export.specs.declared.error.ExportError.TheVariants as export
use Rattle.zed_world.specs.declared.error.WorldError.{WorldError}
use Rattle.zed_world.specs.declared.error.WorldError.TheVariants as world
use Rattle.zed_driver.specs.declared.command.Stop.{Stop}
use Rattle.zed_driver.specs.declared.command.Stop.TheVariants as stop
use Rattle.zed_refusal.specs.declared.reason.Reason.{Reason}
use Rattle.zed_refusal.specs.declared.reason.Reason.TheVariants as reason
use Rattle.zed_refusal.specs.Stops.{action_stop, document_stop, export_stop, file_stop, world_stop}
use Rattle.zed_files.specs.declared.refusal.Refusal.{Refusal}
use Rattle.zed_files.specs.declared.refusal.Refusal.TheVariants.{File}
use Rattle.zed_files.specs.Refusals.{IsOffStage, reason_refusal, stop_refusal}
use Rattle.std.proofs.Common.{◌≡◌, refl}

-- the refusal that is told for a reason
reason_told : (e : Reason) → IsOffStage (reason_refusal e) × (reason_refusal e ≡ File → ⊥)
reason_told reason.NotZzt = ((refl, refl), λ is. cc)
reason_told reason.TooManyBoards = ((refl, refl), λ is. cc)
reason_told reason.Truncated = ((refl, refl), λ is. cc)
reason_told reason.BadBoardSize = ((refl, refl), λ is. cc)
reason_told reason.TooManyStats = ((refl, refl), λ is. cc)
reason_told reason.BadShare = ((refl, refl), λ is. cc)
reason_told reason.Magic = ((refl, refl), λ is. cc)
reason_told reason.NewVersion = ((refl, refl), λ is. cc)
reason_told reason.OtherWorld = ((refl, refl), λ is. cc)
reason_told reason.RecordLength = ((refl, refl), λ is. cc)
reason_told (reason.BadEdit a) = ((refl, refl), λ is. cc)
reason_told reason.CutShort = ((refl, refl), λ is. cc)
reason_told (reason.Clash a) = ((refl, refl), λ is. cc)
reason_told reason.Stale = ((refl, refl), λ is. cc)
reason_told reason.ClockSpent = ((refl, refl), λ is. cc)
reason_told reason.NoSuch = ((refl, refl), λ is. cc)
reason_told reason.OutOfRange = ((refl, refl), λ is. cc)
reason_told reason.NoWorld = ((refl, refl), λ is. cc)
reason_told (reason.BoardsOver a) = ((refl, refl), λ is. cc)
reason_told (reason.StatsOver a b) = ((refl, refl), λ is. cc)
reason_told (reason.BoardOver a b) = ((refl, refl), λ is. cc)
reason_told reason.BadAction = ((refl, refl), λ is. cc)
reason_told reason.NoBoard = ((refl, refl), λ is. cc)

pub stop_off : (e : Stop Reason) → IsOffStage (stop_refusal e)
stop_off stop.Memory = (refl, refl)
stop_off stop.File = (refl, refl)
stop_off (stop.Refused e) = (reason_told e).0

pub stop_is : (e : Stop Reason) → stop_refusal e ≡ File → e ≡ stop.File
stop_is stop.Memory is = absurd (cc)
stop_is stop.File is = refl
stop_is (stop.Refused e) is = absurd ((reason_told e).1 is)

-- ---- the layers below tell of no file

abbrev no_file : Stop Reason → Type 0
no_file e = e ≡ stop.File → ⊥

pub file_tells : (e : EditFileError) → no_file (file_stop e)
file_tells file.Memory is = cc
file_tells file.Magic is = cc
file_tells file.NewVersion is = cc
file_tells file.OtherWorld is = cc
file_tells file.RecordLength is = cc
file_tells (file.BadEdit a) is = cc
file_tells file.CutShort is = cc

pub document_tells : (e : DocumentError) → no_file (document_stop e)
document_tells document.Memory is = cc
document_tells document.OtherWorld is = cc
document_tells (document.BadEdit a) is = cc
document_tells (document.Clash a) is = cc
document_tells document.Stale is = cc
document_tells document.NoSuch is = cc
document_tells document.OutOfRange is = cc
document_tells document.ClockSpent is = cc

pub world_tells : (e : WorldError) → no_file (world_stop e)
world_tells world.Memory is = cc
world_tells world.NotZzt is = cc
world_tells world.TooManyBoards is = cc
world_tells world.Truncated is = cc
world_tells world.BadBoardSize is = cc
world_tells world.TooManyStats is = cc
world_tells world.BadShare is = cc
world_tells (world.BoardOver a b) is = cc

pub export_tells : (e : ExportError) → no_file (export_stop e)
export_tells export.Memory is = cc
export_tells export.Stale is = cc
export_tells export.NoWorld is = cc
export_tells (export.BoardsOver a) is = cc
export_tells (export.StatsOver a b) is = cc
export_tells (export.BoardOver a b) is = cc

pub action_tells : (e : ActionError) → no_file (action_stop e)
action_tells action.BadAction is = cc
action_tells (action.Document e) is = document_tells e is
