-- Why commands that call no device stop: `File` comes of a file alone.
use Rattle.zed_action.specs.declared.error.ActionError.{ActionError}
use Rattle.zed_action.specs.declared.error.ActionError.TheVariants as action
use Rattle.zed_document.specs.declared.error.DocumentError.{DocumentError}
use Rattle.zed_document.specs.declared.error.DocumentError.TheVariants as document
use Rattle.zed_editfile.specs.declared.error.EditFileError.{EditFileError}
use Rattle.zed_editfile.specs.declared.error.EditFileError.TheVariants as file
use Rattle.zed_export.specs.declared.error.ExportError.{ExportError}
use Rattle.zed_export.specs.declared.error.ExportError.TheVariants as export
use Rattle.zed_world.specs.declared.error.WorldError.{WorldError}
use Rattle.zed_world.specs.declared.error.WorldError.TheVariants as world
use Rattle.zed_driver.specs.declared.command.Stop.{Stop}
use Rattle.zed_driver.specs.declared.command.Stop.TheVariants as stop
use Rattle.zed_refusal.specs.declared.reason.Reason.{Reason}
use Rattle.zed_refusal.specs.declared.reason.Reason.TheVariants as reason
use Rattle.zed_refusal.specs.Stops.{action_stop, document_stop, export_stop, file_stop, world_stop}
use Rattle.zed_files.specs.declared.refusal.Refusal.{Refusal}
use Rattle.zed_files.specs.declared.refusal.Refusal.TheVariants.{File}
use Rattle.zed_files.specs.Refusals.{reason_refusal}
use Rattle.zed_take.specs.declared.error.TakeError.{TakeError}
use Rattle.zed_take.specs.declared.error.TakeError.TheVariants as taking
use Rattle.cmd_take.specs.declared.reason.DrawingReason.{DrawingReason}
use Rattle.cmd_take.specs.declared.reason.DrawingReason.TheVariants as drawing
use Rattle.cmd_take.specs.Stops.{drawing_stop, take_stop}
use Rattle.std.proofs.Common.{◌≡◌, refl}

-- the refusal that is told for a reason
pub reason_is : (e : Reason) → reason_refusal e ≡ File → ⊥
reason_is reason.NotZzt = λ is. cc
reason_is reason.TooManyBoards = λ is. cc
reason_is reason.Truncated = λ is. cc
reason_is reason.BadBoardSize = λ is. cc
reason_is reason.TooManyStats = λ is. cc
reason_is reason.BadShare = λ is. cc
reason_is reason.Magic = λ is. cc
reason_is reason.NewVersion = λ is. cc
reason_is reason.OtherWorld = λ is. cc
reason_is reason.RecordLength = λ is. cc
reason_is (reason.BadEdit a) = λ is. cc
reason_is reason.CutShort = λ is. cc
reason_is (reason.Clash a) = λ is. cc
reason_is reason.Stale = λ is. cc
reason_is reason.ClockSpent = λ is. cc
reason_is reason.NoSuch = λ is. cc
reason_is reason.OutOfRange = λ is. cc
reason_is reason.NoWorld = λ is. cc
reason_is (reason.BoardsOver a) = λ is. cc
reason_is (reason.StatsOver a b) = λ is. cc
reason_is (reason.BoardOver a b) = λ is. cc
reason_is reason.BadAction = λ is. cc
reason_is reason.NoBoard = λ is. cc

-- ---- the layers below tell of no file

abbrev no_file : Stop Reason → Type 0
no_file e = e ≡ stop.File → ⊥

pub file_tells : (e : EditFileError) → no_file (file_stop e)
file_tells file.Memory is = cc
file_tells file.Magic is = cc
file_tells file.NewVersion is = cc
file_tells file.OtherWorld is = cc
file_tells file.RecordLength is = cc
file_tells (file.BadEdit a) is = cc
file_tells file.CutShort is = cc

pub document_tells : (e : DocumentError) → no_file (document_stop e)
document_tells document.Memory is = cc
document_tells document.OtherWorld is = cc
document_tells (document.BadEdit a) is = cc
document_tells (document.Clash a) is = cc
document_tells document.Stale is = cc
document_tells document.NoSuch is = cc
document_tells document.OutOfRange is = cc
document_tells document.ClockSpent is = cc

pub world_tells : (e : WorldError) → no_file (world_stop e)
world_tells world.Memory is = cc
world_tells world.NotZzt is = cc
world_tells world.TooManyBoards is = cc
world_tells world.Truncated is = cc
world_tells world.BadBoardSize is = cc
world_tells world.TooManyStats is = cc
world_tells world.BadShare is = cc
world_tells (world.BoardOver a b) is = cc

pub export_tells : (e : ExportError) → no_file (export_stop e)
export_tells export.Memory is = cc
export_tells export.Stale is = cc
export_tells export.NoWorld is = cc
export_tells (export.BoardsOver a) is = cc
export_tells (export.StatsOver a b) is = cc
export_tells (export.BoardOver a b) is = cc

pub action_tells : (e : ActionError) → no_file (action_stop e)
action_tells action.BadAction is = cc
action_tells (action.Document e) is = document_tells e is

-- ---- and as a command that draws tells it

pub drawing_is : (e : Stop Reason) → drawing_stop e ≡ stop.File → e ≡ stop.File
drawing_is stop.Memory is = absurd (cc)
drawing_is stop.File is = refl
drawing_is (stop.Refused e) is = absurd (cc)

pub take_tells : (e : TakeError) → take_stop e ≡ stop.File → ⊥
take_tells taking.Memory is = cc
take_tells (taking.Base e) is = export_tells e (drawing_is (export_stop e) is)
take_tells (taking.WorldOver b n) is = cc
take_tells taking.ClockSpent is = cc
take_tells taking.NotTaken is = cc
