-- What is printed of a board.
use Rattle.std.specs.Prelude.{ℕ, List, Option, Some, None, Result, Ok, Err, slice_get}
use Rattle.zed_types.specs.Limits.{largest_body}
use Rattle.zed_world.specs.declared.board.BoardData.{BoardData}
use Rattle.zed_world.specs.Contents.{Contents}
use Rattle.zed_op.specs.declared.op.Edit.{Edit}
use Rattle.zed_edit.specs.Replay.{replay}
use Rattle.zed_export.specs.declared.error.ExportError.{ExportError}
use Rattle.zed_export.specs.Limits.{exported}
use Rattle.zed_driver.specs.declared.command.Stop.{Stop}
use Rattle.zed_driver.specs.declared.command.Stop.TheVariants.{Refused}
use Rattle.zed_driver.specs.Effects.{Effect}
use Rattle.zed_refusal.specs.declared.reason.Reason.{Reason}
use Rattle.zed_refusal.specs.declared.reason.Reason.TheVariants.{NoBoard}
use Rattle.zed_refusal.specs.Stops.{export_stop}
use Rattle.zed_files.specs.Tells.{printed_as}
use Rattle.zed_look.specs.declared.form.Form.{Form}
use Rattle.zed_look.specs.Drawing.{board_picture}
use Rattle.zed_look.specs.Form.{text_in}

-- the text of a board as it is before it is played, in tick 0, if there is such a board
abbrev pub board_in : Form → Option BoardData → Result (List ℕ) (Stop Reason)
board_in form (Some board) = Ok (text_in form (board_picture 0 board))
board_in form None = Err (Refused NoBoard)

-- the text of the board of this number of a world, or the limit that the world is over
abbrev pub world_in : Form → ℕ → Result Contents ExportError → Result (List ℕ) (Stop Reason)
world_in form n (Ok world) = board_in form (slice_get world.boards n)
world_in form n (Err e) = Err (export_stop e)

-- the same of the world of a set of edits, of which a body may have 32,767 bytes
abbrev pub shown_of : Form → ℕ → List Edit → Result (List ℕ) (Stop Reason)
shown_of form n es = world_in form n (exported largest_body (replay es))

-- what `show` comes to by a set of edits
abbrev pub shows : Form → ℕ → List Edit → Result Effect (Stop Reason)
shows form n es = printed_as (shown_of form n es)
