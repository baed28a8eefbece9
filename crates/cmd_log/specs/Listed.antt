-- What is listed of a world.
use Rattle.std.specs.Prelude.{ℕ, List, map, slice_get, Option, Some, None, Result, Ok, Err}
use Rattle.zed_world.specs.Contents.{Contents}
use Rattle.zed_world.specs.declared.board.BoardData.{BoardData}
use Rattle.zed_world.specs.declared.stat.StatData.{StatData}
use Rattle.zed_op.specs.declared.op.Edit.{Edit}
use Rattle.zed_edit.specs.declared.plain.Plain.{Plain}
use Rattle.zed_edit.specs.Numbers.{alive_boards}
use Rattle.zed_edit.specs.Replay.{replay}
use Rattle.zed_export.specs.declared.error.ExportError.{ExportError}
use Rattle.zed_export.specs.Limits.{refusal_of}
use Rattle.zed_export.specs.World.{world_of}
use Rattle.zed_log.specs.Boards.{boards_text}
use Rattle.zed_log.specs.Program.{program_text}
use Rattle.zed_log.specs.Stats.{stats_text}
use Rattle.zed_driver.specs.declared.command.Stop.{Stop}
use Rattle.zed_driver.specs.Effects.{Effect}
use Rattle.zed_refusal.specs.declared.reason.Reason.{Reason}
use Rattle.zed_files.specs.Tells.{printed_as}
use Rattle.zed_driver.specs.declared.command.Stop.TheVariants.{Refused}
use Rattle.zed_refusal.specs.declared.reason.Reason.TheVariants.{NoBoard, NoSuch}
use Rattle.zed_refusal.specs.Stops.{export_stop}
use Rattle.cmd_log.specs.declared.listing.Listing.{Listing}
use Rattle.cmd_log.specs.declared.listing.Listing.TheVariants.{Boards, Stats, Program}

-- the ranks of the boards that aren't removed, in the order of their numbers
abbrev pub ranks_of : Plain → List ℕ
ranks_of p = map (λ b. b.properties.rank) (alive_boards p)

-- the stats of a board, or NoBoard
abbrev pub stats_of : Option BoardData → Result (List ℕ) (Stop Reason)
stats_of None = Err (Refused NoBoard)
stats_of (Some b) = Ok (stats_text b)

-- the program of a stat of a board, or NoSuch
abbrev pub program_of : BoardData → Option StatData → Result (List ℕ) (Stop Reason)
program_of b None = Err (Refused NoSuch)
program_of b (Some s) = Ok (program_text b.stats s)

-- the same, or NoBoard
abbrev pub program_on : Option BoardData → ℕ → Result (List ℕ) (Stop Reason)
program_on None s = Err (Refused NoBoard)
program_on (Some b) s = program_of b (slice_get b.stats s)

-- what is listed of a world, or the refusal where there is no such board or stat
abbrev pub listed : List ℕ → Contents → Listing → Result (List ℕ) (Stop Reason)
listed ranks w Boards = Ok (boards_text ranks w)
listed ranks w (Stats b) = stats_of (slice_get w.boards b)
listed ranks w (Program b s) = program_on (slice_get w.boards b) s

-- what is listed of a world that goes over no limit, or the refusal for its limit
abbrev pub unless_over : Option ExportError → Result (List ℕ) (Stop Reason) → Result (List ℕ) (Stop Reason)
unless_over None told = told
unless_over (Some e) told = Err (export_stop e)

-- what is listed of the world of a set of edits, of at most 32,767 bytes a body; or the first refusal
abbrev pub list_of : Listing → List Edit → Result (List ℕ) (Stop Reason)
list_of listing es = unless_over (refusal_of 32767 (replay es)) (listed (ranks_of (replay es)) (world_of (replay es)) listing)

-- what `list` comes to by a set of edits
abbrev pub lists : Listing → List Edit → Result Effect (Stop Reason)
lists listing es = printed_as (list_of listing es)
