-- Where there is no board to be shown or played, that is told.
use Rattle.zed_export.specs.declared.error.ExportError.{ExportError}
use Rattle.zed_session.specs.declared.error.SessionError.{SessionError}
use Rattle.zed_session.specs.declared.error.SessionError.TheVariants as session
use Rattle.zed_world.specs.declared.header.Header.{Header}
use Rattle.zed_world.specs.declared.board.BoardData.{BoardData}
use Rattle.zed_files.specs.declared.refusal.Refusal.{Refusal}
use Rattle.std.proofs.Common.{◌≡◌, ℕ, Option, Some, None, Result, Ok, Err, ap}
use Rattle.std.specs.Prelude.{slice_get}
use Rattle.zed_world.specs.Contents.{Contents}
use Rattle.zed_session.specs.Boards.{Answers, BoardOf, OfBoard as InSession}
use Rattle.zed_session.specs.Refusals as told
use Rattle.zed_files.specs.Refusals.{TellsRefusal, session_refusal}
use Rattle.cmd_show.specs.Shown.{board_of_world, board_or_none}

no_board : {X : Type 0} (Y : Type 0) (header : Header) (board : Option BoardData) (Does : BoardOf → Result X SessionError → Type 0) (e : SessionError)
    → InSession header board Does (Err e) → TellsRefusal {X = Y} (board_or_none board) (Err (session_refusal e))
no_board Y header (Some board) Does e is = tt
no_board Y header None Does e is = let same : e ≡ session.NoBoard = cc in ap (λ x. Err (session_refusal x)) same

-- a refused call
pub refused_board : {X : Type 0} (Y : Type 0) (world : Result Contents ExportError) (n : ℕ) (Does : BoardOf → Result X SessionError → Type 0) (e : SessionError)
    → Answers world n Does (Err e) → TellsRefusal {X = Y} (board_of_world world n) (Err (session_refusal e))
refused_board Y (Ok w) n Does e is = no_board Y w.header (slice_get w.boards n) Does e is
refused_board Y (Err x) n Does e is = let same : e ≡ told.export_refusal x = cc in ap (λ y. Err (session_refusal y)) same

board_there : {X Y : Type 0} (header : Header) (board : Option BoardData) (Does : BoardOf → Result X SessionError → Type 0) (u : X) (result : Result Y Refusal)
    → InSession header board Does (Ok u) → TellsRefusal (board_or_none board) result
board_there header (Some board) Does u result is = tt
board_there header None Does u result is = absurd (cc)

-- a call that passed: there is the board
pub passed_board : {X Y : Type 0} (world : Result Contents ExportError) (n : ℕ) (Does : BoardOf → Result X SessionError → Type 0) (u : X) (result : Result Y Refusal)
    → Answers world n Does (Ok u) → TellsRefusal (board_of_world world n) result
passed_board (Ok w) n Does u result is = board_there w.header (slice_get w.boards n) Does u result is
passed_board (Err x) n Does u result is = absurd (cc)
