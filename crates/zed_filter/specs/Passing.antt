-- Which edits pass filters.
use Rattle.std.specs.Prelude.{ℕ, ◌==◌, Bool, true, false, not, ◌&&◌, ◌||◌, Option, Some, None}
use Rattle.std.specs.List.{list_any}
use Rattle.zed_types.specs.declared.names.BoardId.{BoardId}
use Rattle.zed_types.specs.declared.names.StatId.{StatId}
use Rattle.zed_types.specs.declared.names.TextId.{TextId}
use Rattle.zed_types.specs.declared.stamp.Stamp.{Stamp}
use Rattle.zed_types.specs.declared.tile.Place.{Place}
use Rattle.zed_types.specs.Names.{same_board, same_stat, text_of}
use Rattle.zed_types.specs.Stamp.{before, same_stamp}
use Rattle.zed_types.specs.Table.{is_inside}
use Rattle.zed_op.specs.declared.op.Edit.{Edit}
use Rattle.zed_op.specs.declared.op.Op.{Op}
use Rattle.zed_op.specs.declared.op.Op.TheVariants.{BoardRemove, SetBoard, SetCells, StatAdd, StatRemove, SetStat, TextAdd, TextInsert, TextDelete}
use Rattle.zed_op.specs.declared.thing.Thing.{Thing}
use Rattle.zed_op.specs.declared.thing.Thing.TheVariants as thing
use Rattle.zed_edit.specs.declared.plain.Board.{Board}
use Rattle.zed_edit.specs.declared.plain.Plain.{Plain}
use Rattle.zed_export.specs.World.{is_of}
use Rattle.zed_filter.specs.declared.sought.Sought.{Sought}
use Rattle.zed_filter.specs.declared.sought.Cell.{Cell}

-- the board, stat or text that an edit with this stamp works on
abbrev pub worked_on : Stamp → Op → Option Thing
worked_on s (BoardRemove b) = Some (thing.Board b)
worked_on s (SetBoard b setting) = Some (thing.Board b)
worked_on s (SetCells b r tile) = Some (thing.Board b)
worked_on s (StatAdd b fields) = Some (thing.Board b)
worked_on s (StatRemove x) = Some (thing.Stat x)
worked_on s (SetStat x setting) = Some (thing.Stat x)
worked_on s TextAdd = Some (thing.Text (text_of s 0))
worked_on s (TextInsert t after bytes) = Some (thing.Text t)
worked_on s (TextDelete t r) = Some (thing.Text t)
worked_on s _ = None

-- whether a thing is the stat of this name, or the text that it has
abbrev pub is_of_stat : Thing → StatId → Option TextId → Bool
is_of_stat (thing.Stat s) id text = same_stat id s
is_of_stat (thing.Text t) id text = is_of t text
is_of_stat _ id text = false

-- whether a thing is this board, a stat of it, or a text that a stat of it has; stats that are removed count too
abbrev pub is_of_board : Thing → Board → Bool
is_of_board (thing.Board b) x = same_board x.id b
is_of_board t x = list_any (λ s. is_of_stat t s.id s.fields.text) x.stats

-- whether there is a thing, and it is of the board of this name
abbrev pub is_on : Plain → BoardId → Option Thing → Bool
is_on p b None = false
is_on p b (Some t) = list_any (λ x. same_board x.id b && is_of_board t x) p.boards

-- whether an edit made a board
abbrev pub made_board : BoardId → Edit → Bool
made_board b e = same_stamp b.name.stamp e.stamp

-- whether an edit is of a board: it made the board, or works on the board, on a stat of it, or on a text that a stat of it has
abbrev pub is_edit_of : Plain → BoardId → Edit → Bool
is_edit_of p b e = made_board b e || is_on p b (worked_on e.stamp e.op)

-- whether an op sets a cell of a board
abbrev pub sets_cell : BoardId → Place → Op → Bool
sets_cell b at (SetCells c r tile) = same_board c b && is_inside r at
sets_cell b at _ = false

-- whether an edit is of a cell: it made the board, or sets the cell
abbrev pub is_edit_of_cell : Cell → Edit → Bool
is_edit_of_cell c e = made_board c.board e || sets_cell c.board c.place e.op

-- ---- filters

-- an edit of the board, where one is asked for
abbrev pub passes_board : Plain → Option BoardId → Edit → Bool
passes_board p None e = true
passes_board p (Some b) e = is_edit_of p b e

-- an edit of the cell, where one is asked for
abbrev pub passes_cell : Option Cell → Edit → Bool
passes_cell None e = true
passes_cell (Some c) e = is_edit_of_cell c e

-- an edit of the replica, where one is asked for
abbrev pub passes_replica : Option ℕ → Edit → Bool
passes_replica None e = true
passes_replica (Some r) e = e.stamp.replica == r

-- an edit of this stamp or a later one, where one is asked for
abbrev pub passes_since : Option Stamp → Edit → Bool
passes_since None e = true
passes_since (Some s) e = not (before e.stamp s)

-- an edit of this stamp or an earlier one, where one is asked for
abbrev pub passes_until : Option Stamp → Edit → Bool
passes_until None e = true
passes_until (Some s) e = not (before s e.stamp)

-- an edit that is all that is asked for
abbrev pub passes : Plain → Sought → Edit → Bool
passes p s e =
    passes_replica s.replica e && passes_since s.since e && passes_until s.until e && passes_board p s.board e && passes_cell s.cell e
