-- Refusals of the layers below as those of a session, and which of these are faults of a device.
use Rattle.std.specs.Prelude.{◌≡◌, List, Option, is_some, Bool, true, false, Result, Ok, Err}
use Rattle.zed_export.specs.declared.error.ExportError.{ExportError}
use Rattle.zed_export.specs.declared.error.ExportError.TheVariants as export
use Rattle.zed_play.specs.declared.error.PlayError.{PlayError}
use Rattle.zed_play.specs.declared.error.PlayError.TheVariants as play
use Rattle.zed_screen.specs.declared.frame.Frame.{Frame}
use Rattle.zed_session.specs.declared.error.SessionError.{SessionError}
use Rattle.zed_session.specs.Devices.{Foretold}
use Rattle.zed_session.specs.declared.error.SessionError.TheVariants.{Memory, Stale, NoWorld, BoardsOver, StatsOver, BoardOver, NoBoard, NoWords, Over, ScreenFault, KeyFault}

-- the refusal of a session for one of an export
abbrev pub export_refusal : ExportError → SessionError
export_refusal export.Memory = Memory
export_refusal export.Stale = Stale
export_refusal export.NoWorld = NoWorld
export_refusal (export.BoardsOver n) = BoardsOver n
export_refusal (export.StatsOver b n) = StatsOver b n
export_refusal (export.BoardOver b n) = BoardOver b n

-- the refusal of a session for one of a playtest
abbrev pub play_refusal : PlayError → SessionError
play_refusal play.Memory = Memory
play_refusal play.NoBoard = NoBoard
play_refusal play.NoWords = NoWords
play_refusal play.Over = Over

-- the screen failed
abbrev pub is_screen_fault : {X : Type 0} → Result X SessionError → Bool
is_screen_fault (Err ScreenFault) = true
is_screen_fault _ = false

-- the source of keys failed
abbrev pub is_key_fault : {X : Type 0} → Result X SessionError → Bool
is_key_fault (Err KeyFault) = true
is_key_fault _ = false

-- what a screen shows after a refusal: what it did before, and anything where it failed
abbrev pub ShownAfter : SessionError → Option (Option Frame) → Option (Option Frame) → Type 0
ShownAfter ScreenFault old new = is_some new ≡ is_some old
ShownAfter _ old new = new ≡ old

-- a screen shows one frame: none where the call was refused before
abbrev pub ShowsOnce : {X : Type 0} → Result X SessionError → Option (List Bool) → Option (List Bool) → Type 0
ShowsOnce (Ok x) old new = Foretold false old new
ShowsOnce (Err ScreenFault) old new = Foretold true old new
ShowsOnce (Err _) old new = new ≡ old
