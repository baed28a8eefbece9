-- The board of a document that is shown or played.
use Rattle.std.specs.Prelude.{◌≡◌, ◌⊎◌, ℕ, Option, Some, None, slice_get, Result, Ok, Err, MatchResult}
use Rattle.zed_world.specs.declared.board.BoardData.{BoardData}
use Rattle.zed_world.specs.declared.header.Header.{Header}
use Rattle.zed_world.specs.Contents.{Contents}
use Rattle.zed_document.specs.Replica.{Replica}
use Rattle.zed_export.specs.declared.error.ExportError.{ExportError}
use Rattle.zed_export.specs.Limits.{exported, unless_stale}
use Rattle.zed_play.specs.Opening.{play_of}
use Rattle.zed_play.specs.Playtest.{Playtest}
use Rattle.zed_screen.specs.declared.frame.Frame.{Frame}
use Rattle.zed_screen.specs.Frames.{Shows}
use Rattle.zed_screen.specs.Picture.{data_cell}
use Rattle.zed_session.specs.declared.error.SessionError.{SessionError}
use Rattle.zed_session.specs.declared.error.SessionError.TheVariants.{Memory, NoBoard, ScreenFault}
use Rattle.zed_session.specs.declared.playing.Playing.{Playing}
use Rattle.zed_session.specs.Devices.{showing}
use Rattle.zed_session.specs.Refusals.{export_refusal}

-- a board, and the header of its world
pub record BoardOf : Type 0 where
  pub header : Header
  pub board : BoardData

-- the world that a document exports, where no body is over so many bytes; or the first limit
abbrev pub world_shown : ℕ → Replica → Result Contents ExportError
world_shown limit document = unless_stale document (exported limit)

-- what is told where memory is lacking: that, where there is such a board; else that there is none
abbrev pub lack_of : Option BoardData → SessionError
lack_of (Some board) = Memory
lack_of None = NoBoard

-- the world is given, or memory is lacking for its board of this number; where there is no world the refusal
abbrev pub GivesWorld : Result Contents ExportError → ℕ → Result Contents SessionError → Type 0
GivesWorld (Ok world) n result = MatchResult result (λ w. w ≡ world) (λ e. e ≡ lack_of (slice_get world.boards n))
GivesWorld (Err e) n result = result ≡ Err (export_refusal e)

-- what a call answers that needs a board: what it does with it; NoBoard where there is none, whether memory is lacking or not
abbrev pub OfBoard : {X : Type 0} → Header → Option BoardData → (BoardOf → Result X SessionError → Type 0) → Result X SessionError → Type 0
OfBoard header (Some board) Does result = Does (record { header = header; board = board }) result
OfBoard header None Does result = result ≡ Err NoBoard

-- the same of a board by its number in a world; where there is no world the refusal
abbrev pub Answers : {X : Type 0} → Result Contents ExportError → ℕ → (BoardOf → Result X SessionError → Type 0) → Result X SessionError → Type 0
Answers (Ok world) n Does result = OfBoard world.header (slice_get world.boards n) Does result
Answers (Err e) n Does result = result ≡ Err (export_refusal e)

-- the picture of a board
abbrev pub IsPicture : BoardOf → Frame → Type 0
IsPicture b frame = Shows frame (data_cell b.board)

-- the picture of a board is made, or memory is lacking
abbrev pub Draws : BoardOf → Result Frame SessionError → Type 0
Draws b result = MatchResult result (IsPicture b) (λ e. e ≡ Memory)

-- a screen comes to show the picture of a board, if it tells what it shows; or it fails, or memory is lacking
abbrev pub ShowsBoard : {X : Type 0} → Option (Option Frame) → Option (Option Frame) → BoardOf → Result X SessionError → Type 0
ShowsBoard old new b result =
    MatchResult result
    (λ _. (frame : Frame) × (IsPicture b frame × (new ≡ showing frame old)))
    (λ e. (e ≡ Memory) ⊎ (e ≡ ScreenFault))

-- the playtest of a board, which begins at tick 1
abbrev pub playtest_of : BoardOf → Playtest
playtest_of b = play_of b.header b.board 1

-- the playtest of a board is made, or memory is lacking
abbrev pub Opens : BoardOf → Result Playtest SessionError → Type 0
Opens b result = MatchResult result (λ p. p ≡ playtest_of b) (λ e. e ≡ Memory)

-- the playtest of a board is started, with no key kept; or memory is lacking
abbrev pub Starts : {X : Type 0} → Playing → BoardOf → Result X SessionError → Type 0
Starts new b result =
    MatchResult result
    (λ _. new ≡ record { playtest = Some (playtest_of b); kept = None })
    (λ e. e ≡ Memory)
