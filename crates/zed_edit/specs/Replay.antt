-- What an edit does, and the replay of edits in rising stamp order by one author.
use Rattle.std.specs.Prelude.{◌≡◌, ◌≢◌, ◌⊎◌, Bool, true, false, if◌then◌else◌, List, [], ◌∷◌, ◌++◌, Result, Ok, Err}
use Rattle.std.specs.List.{list_all, list_any}
use Rattle.zed_types.specs.declared.stamp.Stamp.{Stamp}
use Rattle.zed_types.specs.Text.{run_from, put_after, kill}
use Rattle.zed_world.specs.Contents.{Contents}
use Rattle.zed_world.specs.Reading.{world_at}
use Rattle.zed_world.specs.declared.error.WorldError.{WorldError}
use Rattle.zed_op.specs.declared.op.Op.{Op}
use Rattle.zed_op.specs.declared.op.Op.TheVariants.{Genesis, SetHeader, BoardAdd, BoardRemove, SetBoard, SetCells, StatAdd, StatRemove, SetStat, TextAdd, TextInsert, TextDelete}
use Rattle.zed_op.specs.declared.op.Edit.{Edit}
use Rattle.zed_op.specs.declared.thing.Thing.{Thing}
use Rattle.zed_edit.specs.declared.plain.Plain.{Plain}
use Rattle.zed_edit.specs.Header.{set_header}
use Rattle.zed_edit.specs.Board.{new_board, set_board_property, set_board_cells, add_stat, remove_board}
use Rattle.zed_edit.specs.Stat.{set_stat, new_stat, remove_stat}
use Rattle.zed_edit.specs.Document.{empty_document, change_board, change_stat, change_text, has}
use Rattle.zed_types.specs.Names.{board_of, stat_of, text_of}
use Rattle.zed_edit.specs.Genesis.{header_of, opened_boards, opened_texts}
use Rattle.zed_op.specs.Growth.{may_grow}
use Rattle.zed_op.specs.Names.{names_of}

-- whether all of these things were made
abbrev pub has_all : Plain → List Thing → Bool
has_all p ts = list_all (has p) ts

-- whether an edit can be done: everything that it names was made
abbrev pub can : Plain → Edit → Bool
can p e = has_all p (names_of e.op)

-- the world that a file spells comes behind what is there, and its header in place of the one before
abbrev pub open_world : Stamp → Result Contents WorldError → Plain → Plain
open_world s (Err e) p = p
open_world s (Ok w) p = record p {
  header = header_of s w.header;
  boards = p.boards ++ opened_boards s w.boards;
  texts = p.texts ++ opened_texts s w.boards;
}

-- the change that one author makes
abbrev pub do_op : Stamp → Op → Plain → Plain
do_op s (Genesis bytes) p = open_world s (world_at bytes) p
do_op s (SetHeader setting) p = record p { header = set_header setting p.header }
do_op s (BoardAdd name) p = record p { boards = p.boards ++ new_board (board_of s 0) (stat_of s 0) name ∷ [] }
do_op s (BoardRemove b) p = change_board b remove_board p
do_op s (SetBoard b setting) p = change_board b (set_board_property setting) p
do_op s (SetCells b r tile) p = change_board b (set_board_cells r tile) p
do_op s (StatAdd b fields) p = change_board b (add_stat (new_stat (stat_of s 0) false fields)) p
do_op s (StatRemove x) p = change_stat x remove_stat p
do_op s (SetStat x setting) p = change_stat x (set_stat setting) p
do_op s TextAdd p = record p { texts = p.texts ++ record { id = text_of s 0; elements = [] } ∷ [] }
do_op s (TextInsert t after bytes) p = change_text t (put_after after (run_from s 0 bytes)) p
do_op s (TextDelete t r) p = change_text t (kill r) p

-- what an edit does that can be done
abbrev pub do_edit : Plain → Edit → Plain
do_edit p e = do_op e.stamp e.op p

-- an edit that can't be done is held: it leaves its stamp, and changes nothing else
abbrev pub hold : Plain → Edit → Plain
hold p e = record p { held = p.held ++ e.stamp ∷ [] }

-- a step may need memory: the document may grow by the edit, or the edit is held
abbrev pub MayGrow : Plain → Edit → Type 0
MayGrow p e = (may_grow e.op ≡ true) ⊎ (can p e ≡ false)

-- one edit of the replay: done where it can be, else held
abbrev pub step : Plain → Edit → Plain
step p e = if can p e then do_edit p e else hold p e

-- what one author makes by an edit who made none before
abbrev pub made_by : Edit → Plain
made_by e = step empty_document e

-- what edits, in rising stamp order, make of a document
abbrev pub replay_on : Plain → List Edit → Plain
replay_on p [] = p
replay_on p (e ∷ es) = replay_on (step p e) es

-- the document of one author who made these edits
abbrev pub replay : List Edit → Plain
replay es = replay_on empty_document es

-- the edits that the replay does
abbrev pub taken_on : Plain → List Edit → List Edit
taken_on p [] = []
taken_on p (e ∷ es) = if can p e then e ∷ taken_on (step p e) es else taken_on (step p e) es

-- the edits that the replay of a document from the start does
abbrev pub taken : List Edit → List Edit
taken es = taken_on empty_document es

-- the edits that the replay holds
abbrev pub held_on : Plain → List Edit → List Edit
held_on p [] = []
held_on p (e ∷ es) = if can p e then held_on (step p e) es else e ∷ held_on (step p e) es

-- the edits that the replay of a document from the start holds
abbrev pub held : List Edit → List Edit
held es = held_on empty_document es

-- a replay may need memory: the document may grow by one of the edits, or one is held
abbrev pub MayGrowBy : Plain → List Edit → Type 0
MayGrowBy p es = (list_any (λ e. may_grow e.op) es ≡ true) ⊎ (held_on p es ≢ [])
