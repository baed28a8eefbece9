-- Registers of a document from the empty one on: making a thing writes all its registers, and the greatest stamp wins each.
use Rattle.std.specs.Prelude.{◌≡◌, Bool, false, if◌then◌else◌, List, [], ◌∷◌, find, flat_map, Option, Some, None, option_map, Result, Ok, Err}
use Rattle.std.specs.Option.{option_or}
use Rattle.zed_types.specs.declared.stamp.Stamp.{Stamp}
use Rattle.zed_types.specs.declared.written.Written.{Written}
use Rattle.zed_types.specs.declared.names.BoardId.{BoardId}
use Rattle.zed_types.specs.declared.names.StatId.{StatId}
use Rattle.zed_types.specs.Names.{board_of, stat_of, same_board, same_stat}
use Rattle.zed_types.specs.Register.{latest_of}
use Rattle.zed_world.specs.Contents.{Contents}
use Rattle.zed_world.specs.Reading.{world_at}
use Rattle.zed_world.specs.declared.error.WorldError.{WorldError}
use Rattle.zed_op.specs.declared.op.Op.{Op}
use Rattle.zed_op.specs.declared.op.Op.TheVariants.{Genesis, BoardAdd, BoardRemove, SetBoard, SetCells, StatAdd, StatRemove, SetStat}
use Rattle.zed_op.specs.declared.op.Edit.{Edit}
use Rattle.zed_op.specs.Set.{IsRising}
use Rattle.zed_op.specs.Sizes.{HaveSizes}
use Rattle.zed_edit.specs.declared.plain.Header.{Header}
use Rattle.zed_edit.specs.declared.plain.Board.{Board}
use Rattle.zed_edit.specs.declared.plain.Stat.{Stat}
use Rattle.zed_edit.specs.declared.plain.Plain.{Plain}
use Rattle.zed_edit.specs.Board.{new_board}
use Rattle.zed_edit.specs.Stat.{new_stat}
use Rattle.zed_edit.specs.Genesis.{header_of, opened_boards}
use Rattle.zed_edit.specs.Document.{empty_document, all_stats}
use Rattle.zed_edit.specs.Replay.{replay, taken}
use Rattle.zed_laws.specs.Registers.{writes_of}
use Rattle.zed_laws.specs.Fields.{Field}

-- a register: how it is read of a document, if it is there, and what an edit writes into it
pub record Register (V : Type 0) : Type 0 where
  pub read : Plain → Option V
  pub writes : Edit → Option V

-- the value of the latest write, or the one from the start where there is none
abbrev pub latest_or : {V : Type 0} → Option V → Option (Written V) → Option V
latest_or start None = start
latest_or start (Some w) = Some w.value

-- after the replay a register has the value of the write with the greatest stamp of the edits taken, or the one that the empty document has
abbrev pub GreatestStampWins : {V : Type 0} → Register V → Type 0
GreatestStampWins r =
    (es : List Edit)
    → IsRising es
    → HaveSizes es
    → r.read (replay es) ≡ latest_or (r.read empty_document) (latest_of None (writes_of r.writes (taken es)))

-- ---- the header

-- the header of a world file, if it is one
abbrev pub opened_header : Stamp → Result Contents WorldError → Option Header
opened_header s (Ok w) = Some (header_of s w.header)
opened_header s (Err e) = None

-- the header that an edit makes
abbrev pub made_header : Stamp → Op → Option Header
made_header s (Genesis bytes) = opened_header s (world_at bytes)
made_header s _ = None

-- a field of the header
abbrev pub of_header : {V : Type 0} → Field Header V → Register V
of_header f = record {
  read = λ p. Some (f.value p.header);
  writes = λ e. option_or (option_map f.value (made_header e.stamp e.op)) (f.set e.op);
}

-- ---- boards

-- the boards of a world file, if it is one
abbrev pub opened_from : Stamp → Result Contents WorldError → List Board
opened_from s (Ok w) = opened_boards s w.boards
opened_from s (Err e) = []

-- the boards that an edit makes
abbrev pub made_boards : Stamp → Op → List Board
made_boards s (Genesis bytes) = opened_from s (world_at bytes)
made_boards s (BoardAdd name) = new_board (board_of s 0) (stat_of s 0) name ∷ []
made_boards s _ = []

-- whether an edit changes a board
abbrev pub changes_board : BoardId → Op → Bool
changes_board b (BoardRemove c) = same_board c b
changes_board b (SetBoard c setting) = same_board c b
changes_board b (SetCells c cells tile) = same_board c b
changes_board b _ = false

-- the board of a name
abbrev pub find_board : BoardId → List Board → Option Board
find_board b bs = find (λ x. same_board x.id b) bs

-- a field of a board
abbrev pub of_board : {V : Type 0} → BoardId → Field Board V → Register V
of_board b f = record {
  read = λ p. option_map f.value (find_board b p.boards);
  writes =
      λ e. option_or (option_map f.value (find_board b (made_boards e.stamp e.op))) (if changes_board b e.op then f.set e.op else None);
}

-- ---- stats

-- the stats of boards
abbrev pub stats_of : List Board → List Stat
stats_of bs = flat_map (λ b. b.stats) bs

-- the stats that an edit makes, those of its boards too
abbrev pub made_stats : Stamp → Op → List Stat
made_stats s (StatAdd b fields) = new_stat (stat_of s 0) false fields ∷ []
made_stats s op = stats_of (made_boards s op)

-- whether an edit changes a stat
abbrev pub changes_stat : StatId → Op → Bool
changes_stat x (StatRemove y) = same_stat y x
changes_stat x (SetStat y setting) = same_stat y x
changes_stat x _ = false

-- the stat of a name
abbrev pub find_stat : StatId → List Stat → Option Stat
find_stat x ss = find (λ y. same_stat y.id x) ss

-- a field of a stat, whichever board it is on
abbrev pub of_stat : {V : Type 0} → StatId → Field Stat V → Register V
of_stat x f = record {
  read = λ p. option_map f.value (find_stat x (all_stats p));
  writes = λ e. option_or (option_map f.value (find_stat x (made_stats e.stamp e.op))) (if changes_stat x e.op then f.set e.op else None);
}
