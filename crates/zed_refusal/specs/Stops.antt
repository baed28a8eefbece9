-- Refusals of the layers below as those of a command.
use Rattle.zed_editfile.specs.declared.error.EditFileError.{EditFileError}
use Rattle.zed_editfile.specs.declared.error.EditFileError.TheVariants as file
use Rattle.zed_world.specs.declared.error.WorldError.{WorldError}
use Rattle.zed_world.specs.declared.error.WorldError.TheVariants as world
use Rattle.zed_action.specs.declared.error.ActionError.{ActionError}
use Rattle.zed_action.specs.declared.error.ActionError.TheVariants as action
use Rattle.zed_document.specs.declared.error.DocumentError.{DocumentError}
use Rattle.zed_document.specs.declared.error.DocumentError.TheVariants as document
use Rattle.zed_export.specs.declared.error.ExportError.{ExportError}
use Rattle.zed_export.specs.declared.error.ExportError.TheVariants as export
use Rattle.zed_driver.specs.declared.command.Stop.{Stop}
use Rattle.zed_driver.specs.declared.command.Stop.TheVariants.{Memory, File, Refused}
use Rattle.zed_refusal.specs.declared.reason.Reason.{Reason}
use Rattle.zed_refusal.specs.declared.reason.Reason.TheVariants.{NotZzt, TooManyBoards, Truncated, BadBoardSize, TooManyStats, BadShare, Magic, NewVersion, OtherWorld, RecordLength, BadEdit, CutShort, Clash, Stale, ClockSpent, NoSuch, OutOfRange, NoWorld, BoardsOver, StatsOver, BoardOver, BadAction}

-- why a command stops at an edit file
abbrev pub file_stop : EditFileError → Stop Reason
file_stop file.Memory = Memory
file_stop file.Magic = Refused Magic
file_stop file.NewVersion = Refused NewVersion
file_stop file.OtherWorld = Refused OtherWorld
file_stop file.RecordLength = Refused RecordLength
file_stop (file.BadEdit c) = Refused (BadEdit c)
file_stop file.CutShort = Refused CutShort

-- why it stops at a document
abbrev pub document_stop : DocumentError → Stop Reason
document_stop document.Memory = Memory
document_stop document.OtherWorld = Refused OtherWorld
document_stop (document.BadEdit c) = Refused (BadEdit c)
document_stop (document.Clash s) = Refused (Clash s)
document_stop document.Stale = Refused Stale
document_stop document.NoSuch = Refused NoSuch
document_stop document.OutOfRange = Refused OutOfRange
document_stop document.ClockSpent = Refused ClockSpent

-- why it stops at a world file
abbrev pub world_stop : WorldError → Stop Reason
world_stop world.Memory = Memory
world_stop world.NotZzt = Refused NotZzt
world_stop world.TooManyBoards = Refused TooManyBoards
world_stop world.Truncated = Refused Truncated
world_stop world.BadBoardSize = Refused BadBoardSize
world_stop world.TooManyStats = Refused TooManyStats
world_stop world.BadShare = Refused BadShare
world_stop (world.BoardOver b n) = Refused (BoardOver b n)

-- why it stops at an action
abbrev pub action_stop : ActionError → Stop Reason
action_stop action.BadAction = Refused BadAction
action_stop (action.Document e) = document_stop e

-- why it stops at an export
abbrev pub export_stop : ExportError → Stop Reason
export_stop export.Memory = Memory
export_stop export.Stale = Refused Stale
export_stop export.NoWorld = Refused NoWorld
export_stop (export.BoardsOver n) = Refused (BoardsOver n)
export_stop (export.StatsOver b n) = Refused (StatsOver b n)
export_stop (export.BoardOver b n) = Refused (BoardOver b n)

-- the same stop of a command with refusals of another type
abbrev pub stop_as : {E F : Type 0} → (E → F) → Stop E → Stop F
stop_as f Memory = Memory
stop_as f File = File
stop_as f (Refused e) = Refused (f e)
