-- What is printed of the program of a stat.
use Rattle.std.specs.Prelude.{ℕ, List, slice_get, Option, Some, None, Result, Ok, Err}
use Rattle.zed_world.specs.declared.board.BoardData.{BoardData}
use Rattle.zed_world.specs.declared.stat.StatData.{StatData}
use Rattle.zed_op.specs.declared.op.Edit.{Edit}
use Rattle.zed_edit.specs.Replay.{replay}
use Rattle.zed_export.specs.Limits.{refusal_of}
use Rattle.zed_export.specs.World.{world_of}
use Rattle.zed_plaintext.specs.Text.{text_of}
use Rattle.cmd_program.specs.Codes.{program_of}
use Rattle.zed_driver.specs.declared.command.Stop.{Stop}
use Rattle.zed_driver.specs.declared.command.Stop.TheVariants.{Refused}
use Rattle.zed_driver.specs.Effects.{Effect}
use Rattle.zed_refusal.specs.declared.reason.Reason.{Reason}
use Rattle.zed_refusal.specs.declared.reason.Reason.TheVariants.{NoBoard, NoSuch}
use Rattle.zed_files.specs.Tells.{printed_as}
use Rattle.cmd_log.specs.Listed.{unless_over}

-- the program of a stat of a board as a text, or NoSuch
abbrev pub text_of_stat : BoardData → Option StatData → Result (List ℕ) (Stop Reason)
text_of_stat b None = Err (Refused NoSuch)
text_of_stat b (Some s) = Ok (text_of (program_of b.stats s.code))

-- the same by the number of the stat, or NoBoard
abbrev pub text_on : Option BoardData → ℕ → Result (List ℕ) (Stop Reason)
text_on None stat = Err (Refused NoBoard)
text_on (Some b) stat = text_of_stat b (slice_get b.stats stat)

-- the same in the world of a set of edits, of at most 32,767 bytes a body; or the first refusal
abbrev pub printed : ℕ → ℕ → List Edit → Result (List ℕ) (Stop Reason)
printed board stat es = unless_over (refusal_of 32767 (replay es)) (text_on (slice_get (world_of (replay es)).boards board) stat)

-- what printing a program comes to by a set of edits
abbrev pub prints_program : ℕ → ℕ → List Edit → Result Effect (Stop Reason)
prints_program board stat es = printed_as (printed board stat es)
