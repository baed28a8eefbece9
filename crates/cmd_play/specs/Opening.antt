-- The playtest that begins on a board of the world of a set of edits.
use Rattle.std.specs.Prelude.{ℕ, List, Option, Some, None, slice_get, Result, Ok, Err}
use Rattle.zed_types.specs.Limits.{largest_body}
use Rattle.zed_world.specs.declared.board.BoardData.{BoardData}
use Rattle.zed_world.specs.declared.header.Header.{Header}
use Rattle.zed_world.specs.Contents.{Contents}
use Rattle.zed_op.specs.declared.op.Edit.{Edit}
use Rattle.zed_edit.specs.Replay.{replay}
use Rattle.zed_export.specs.declared.error.ExportError.{ExportError}
use Rattle.zed_export.specs.Limits.{exported}
use Rattle.zed_play.specs.Opening.{play_of}
use Rattle.zed_play.specs.Playtest.{Playtest}
use Rattle.zed_files.specs.declared.refusal.Refusal.{Refusal}
use Rattle.zed_files.specs.declared.refusal.Refusal.TheVariants.{NoBoard}
use Rattle.zed_files.specs.Refusals.{export_refusal}
use Rattle.cmd_play.specs.declared.opening.Going.{Going}
use Rattle.cmd_play.specs.declared.opening.Going.TheVariants.{On, Stays}

-- the playtest of a board, from tick 1 on, if there is such a board
abbrev pub on_board : Header → Option BoardData → Result Playtest Refusal
on_board header (Some board) = Ok (play_of header board 1)
on_board header None = Err NoBoard

-- the same of the board of this number of a world, or the limit that the world is over
abbrev pub in_world : ℕ → Result Contents ExportError → Result Playtest Refusal
in_world n (Ok world) = on_board world.header (slice_get world.boards n)
in_world n (Err e) = Err (export_refusal e)

-- the same of the world of a set of edits, with bodies as long as a world file can spell
abbrev pub opened : ℕ → List Edit → Result Playtest Refusal
opened n es = in_world n (exported largest_body (replay es))

-- the same of a set of edits, or what was refused before
abbrev pub opened_in : ℕ → Result (List Edit) Refusal → Result Playtest Refusal
opened_in n (Ok es) = opened n es
opened_in n (Err e) = Err e

-- ---- the boards over which a playtest goes on

-- the world over whose boards a playtest goes on, if it does
abbrev pub over_boards : Going → Contents → Option Contents
over_boards Stays world = None
over_boards On world = Some world

-- the same of one that was exported, if it could be
abbrev pub over_world : Going → Result Contents ExportError → Option Contents
over_world going (Ok world) = over_boards going world
over_world going (Err e) = None

-- the same of the world of a set of edits
abbrev pub over_edits : Going → List Edit → Option Contents
over_edits going es = over_world going (exported largest_body (replay es))
