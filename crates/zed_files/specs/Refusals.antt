-- Refusals of the layers below as those of a command.
use Rattle.std.specs.Prelude.{◌≡◌, Bool, true, false, Result, Ok, Err}
use Rattle.zed_editfile.specs.declared.error.EditFileError.{EditFileError}
use Rattle.zed_editfile.specs.declared.error.EditFileError.TheVariants as file
use Rattle.zed_world.specs.declared.error.WorldError.{WorldError}
use Rattle.zed_world.specs.declared.error.WorldError.TheVariants as world
use Rattle.zed_action.specs.declared.error.ActionError.{ActionError}
use Rattle.zed_action.specs.declared.error.ActionError.TheVariants as action
use Rattle.zed_document.specs.declared.error.DocumentError.{DocumentError}
use Rattle.zed_document.specs.declared.error.DocumentError.TheVariants as document
use Rattle.zed_export.specs.declared.error.ExportError.{ExportError}
use Rattle.zed_link.specs.declared.error.LinkError.{LinkError}
use Rattle.zed_session.specs.declared.error.SessionError.{SessionError}
use Rattle.zed_session.specs.declared.error.SessionError.TheVariants as session
use Rattle.zed_session.specs.Refusals as told
use Rattle.zed_session.specs.Told as linked
use Rattle.zed_driver.specs.declared.command.Stop.{Stop}
use Rattle.zed_driver.specs.declared.command.Stop.TheVariants as stop
use Rattle.zed_refusal.specs.declared.reason.Reason.{Reason}
use Rattle.zed_refusal.specs.declared.reason.Reason.TheVariants as reason
use Rattle.zed_files.specs.declared.refusal.Refusal.{Refusal}
use Rattle.zed_files.specs.declared.refusal.Refusal.TheVariants.{Memory, NotZzt, TooManyBoards, Truncated, BadBoardSize, TooManyStats, BadShare, Magic, NewVersion, OtherWorld, RecordLength, BadEdit, CutShort, Clash, Stale, NoSuch}
use Rattle.zed_files.specs.declared.refusal.Refusal.TheVariants.{ClockSpent, OutOfRange, BadAction, NoWorld, BoardsOver, StatsOver, BoardOver, File, NoBoard, NoWords, Over, LinkFault, ScreenFault, KeyFault, TooManyTurns, NoLink}

-- the refusal of a command for one of an edit file
abbrev pub file_refusal : EditFileError → Refusal
file_refusal file.Memory = Memory
file_refusal file.Magic = Magic
file_refusal file.NewVersion = NewVersion
file_refusal file.OtherWorld = OtherWorld
file_refusal file.RecordLength = RecordLength
file_refusal (file.BadEdit c) = BadEdit c
file_refusal file.CutShort = CutShort

-- the refusal of a command for one of a document
abbrev pub document_refusal : DocumentError → Refusal
document_refusal document.Memory = Memory
document_refusal document.OtherWorld = OtherWorld
document_refusal (document.BadEdit c) = BadEdit c
document_refusal (document.Clash s) = Clash s
document_refusal document.Stale = Stale
document_refusal document.NoSuch = NoSuch
document_refusal document.OutOfRange = OutOfRange
document_refusal document.ClockSpent = ClockSpent

-- the refusal of a command for one of a world file
abbrev pub world_refusal : WorldError → Refusal
world_refusal world.Memory = Memory
world_refusal world.NotZzt = NotZzt
world_refusal world.TooManyBoards = TooManyBoards
world_refusal world.Truncated = Truncated
world_refusal world.BadBoardSize = BadBoardSize
world_refusal world.TooManyStats = TooManyStats
world_refusal world.BadShare = BadShare
world_refusal (world.BoardOver b n) = BoardOver b n

-- the refusal of a command for one of an action
abbrev pub action_refusal : ActionError → Refusal
action_refusal action.BadAction = BadAction
action_refusal (action.Document e) = document_refusal e

-- the refusal of a command for one of a session
abbrev pub session_refusal : SessionError → Refusal
session_refusal session.Memory = Memory
session_refusal session.Magic = Magic
session_refusal session.NewVersion = NewVersion
session_refusal session.OtherWorld = OtherWorld
session_refusal session.RecordLength = RecordLength
session_refusal (session.BadEdit c) = BadEdit c
session_refusal session.CutShort = CutShort
session_refusal (session.Clash s) = Clash s
session_refusal session.Stale = Stale
session_refusal session.NoWorld = NoWorld
session_refusal (session.BoardsOver n) = BoardsOver n
session_refusal (session.StatsOver b n) = StatsOver b n
session_refusal (session.BoardOver b n) = BoardOver b n
session_refusal session.NoBoard = NoBoard
session_refusal session.NoWords = NoWords
session_refusal session.Over = Over
session_refusal session.LinkFault = LinkFault
session_refusal session.ScreenFault = ScreenFault
session_refusal session.KeyFault = KeyFault
session_refusal session.TooManyTurns = TooManyTurns
session_refusal session.NoLink = NoLink

-- the refusal of a command for one of an export, as a session tells it
abbrev pub export_refusal : ExportError → Refusal
export_refusal e = session_refusal (told.export_refusal e)

-- the refusal of a command for one of a link, as a session tells it
abbrev pub link_refusal : LinkError → Refusal
link_refusal e = session_refusal (linked.link_refusal e)

-- the refusal of a program for one of a command that calls no device
abbrev pub reason_refusal : Reason → Refusal
reason_refusal reason.NotZzt = NotZzt
reason_refusal reason.TooManyBoards = TooManyBoards
reason_refusal reason.Truncated = Truncated
reason_refusal reason.BadBoardSize = BadBoardSize
reason_refusal reason.TooManyStats = TooManyStats
reason_refusal reason.BadShare = BadShare
reason_refusal reason.Magic = Magic
reason_refusal reason.NewVersion = NewVersion
reason_refusal reason.OtherWorld = OtherWorld
reason_refusal reason.RecordLength = RecordLength
reason_refusal (reason.BadEdit c) = BadEdit c
reason_refusal reason.CutShort = CutShort
reason_refusal (reason.Clash s) = Clash s
reason_refusal reason.Stale = Stale
reason_refusal reason.ClockSpent = ClockSpent
reason_refusal reason.NoSuch = NoSuch
reason_refusal reason.OutOfRange = OutOfRange
reason_refusal reason.NoWorld = NoWorld
reason_refusal (reason.BoardsOver n) = BoardsOver n
reason_refusal (reason.StatsOver b n) = StatsOver b n
reason_refusal (reason.BoardOver b n) = BoardOver b n
reason_refusal reason.BadAction = BadAction
reason_refusal reason.NoBoard = NoBoard

-- the same for why such a command stops
abbrev pub stop_refusal : Stop Reason → Refusal
stop_refusal stop.Memory = Memory
stop_refusal stop.File = File
stop_refusal (stop.Refused e) = reason_refusal e

-- what it comes to, with the refusal of a program
abbrev pub refused_as : {X : Type 0} → Result X (Stop Reason) → Result X Refusal
refused_as (Ok x) = Ok x
refused_as (Err e) = Err (stop_refusal e)

-- where this is refused, so is that, with the same refusal, whether memory is lacking or not
abbrev pub TellsRefusal : {X Y : Type 0} → Result Y Refusal → Result X Refusal → Type 0
TellsRefusal (Ok y) result = Unit {0}
TellsRefusal (Err e) result = result ≡ Err e

-- whether an answer tells of a host that failed
abbrev pub is_file_refusal : {X : Type 0} → Result X Refusal → Bool
is_file_refusal (Err File) = true
is_file_refusal (Err _) = false
is_file_refusal (Ok x) = false

-- whether a refusal tells of a screen that failed
abbrev pub is_of_screen : Refusal → Bool
is_of_screen ScreenFault = true
is_of_screen _ = false

-- whether it tells of a source of keys that failed
abbrev pub is_of_keys : Refusal → Bool
is_of_keys KeyFault = true
is_of_keys _ = false

-- the refusal is neither of a screen nor of a source of keys
abbrev pub IsOffStage : Refusal → Type 0
IsOffStage e = (is_of_screen e ≡ false) × (is_of_keys e ≡ false)

-- whether an answer tells of a screen that failed
abbrev pub is_screen_fault : {X : Type 0} → Result X Refusal → Bool
is_screen_fault (Err e) = is_of_screen e
is_screen_fault (Ok x) = false

-- whether it tells of a source of keys that failed
abbrev pub is_key_fault : {X : Type 0} → Result X Refusal → Bool
is_key_fault (Err e) = is_of_keys e
is_key_fault (Ok x) = false
