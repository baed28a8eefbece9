-- A live board: its properties, mark, cells and stats, each register with its latest write.
use Rattle.std.specs.Prelude.{◌≡◌, ◌<◌, ◌||◌, ℕ, Bool, true, false, List, [], ◌∷◌, ◌++◌, length, map, slice_get, is_some, Some}
use Rattle.std.specs.List.{AllByRecursion}
use Rattle.zed_types.specs.declared.stamp.Stamp.{Stamp}
use Rattle.zed_types.specs.Limits.{table_tiles}
use Rattle.zed_types.specs.declared.names.BoardId.{BoardId}
use Rattle.zed_types.specs.declared.names.StatId.{StatId}
use Rattle.zed_types.specs.Names.{same_board}
use Rattle.zed_types.specs.Register.{keep_later, value_or, written_at}
use Rattle.zed_op.specs.declared.op.Op.{Op}
use Rattle.zed_op.specs.declared.op.Op.TheVariants.{BoardRemove, SetBoard, SetCells, StatAdd, StatRemove, SetStat}
use Rattle.zed_op.specs.declared.op.Edit.{Edit}
use Rattle.zed_op.specs.declared.thing.Thing.TheVariants as thing
use Rattle.zed_op.specs.Set.{IsRising, AllFit}
use Rattle.zed_op.specs.Sizes.{HasSizes, HaveSizes}
use Rattle.zed_edit.specs.declared.plain.Board.{Board}
use Rattle.zed_edit.specs.Replay.{replay, taken}
use Rattle.zed_laws.specs.Fields.{board_removed, cell}
use Rattle.zed_laws.specs.Making.{makes}
use Rattle.zed_laws.specs.Winners.{of_board, find_board, made_boards, changes_board}
use Rattle.zed_laws.specs.Whole.{IsWholeBoard}
use Rattle.zed_cells.specs.Cells.{set_cells, tiles_of}
use Rattle.zed_live.specs.declared.board.LiveBoard.{LiveBoard}
use Rattle.zed_live.specs.Shows.{latest_in}
use Rattle.zed_live.specs.Properties.{unwritten, write_property, write_properties, PropertiesShow}
use Rattle.zed_live.specs.Shown.{shown_properties}
use Rattle.zed_live.specs.Stat.{touches_stat}
use Rattle.zed_live.specs.BoardStats.{add_each, stats_after, StatsShow, shown_stats}

-- a board as the edit with this stamp makes it
abbrev pub as_made : Stamp → Board → LiveBoard
as_made s made = record {
  properties = write_properties s made.properties unwritten;
  removed = Some (written_at s made.removed);
  cells = map (written_at s) made.tiles;
  stats = add_each made.stats [];
}

-- a board after an edit of one stat, which changes that if it is on the board
abbrev pub stat_changed : Stamp → Op → LiveBoard → LiveBoard
stat_changed s (StatRemove y) x = record x { stats = stats_after s (StatRemove y) x.stats }
stat_changed s (SetStat y w) x = record x { stats = stats_after s (SetStat y w) x.stats }
stat_changed s _ x = x

-- a board after an edit of it, whenever it comes
abbrev pub board_after : Stamp → Op → LiveBoard → LiveBoard
board_after s (BoardRemove b) x = record x { removed = keep_later x.removed (written_at s true) }
board_after s (SetBoard b setting) x = record x { properties = write_property s setting x.properties }
board_after s (SetCells b cells tile) x = record x { cells = set_cells cells (written_at s tile) x.cells }
board_after s (StatAdd b fields) x = record x { stats = stats_after s (StatAdd b fields) x.stats }
board_after s (StatRemove y) x = stat_changed s (StatRemove y) x
board_after s (SetStat y setting) x = stat_changed s (SetStat y setting) x
board_after s _ x = x

-- each register of a board has the latest write of these edits, and so has each stat that they put on it
pub record BoardShows (b : BoardId) (es : List Edit) (x : LiveBoard) : Type 0 where
  pub whole : length x.cells ≡ table_tiles
  pub properties : PropertiesShow b es x.properties
  pub removed : x.removed ≡ latest_in (of_board b board_removed) es
  pub cells : (i : ℕ) → i < table_tiles → slice_get x.cells i ≡ latest_in (of_board b (cell i)) es
  pub stats : StatsShow b es x.stats

-- whether an edit is of a board: it changes it, or adds a stat to it
abbrev pub is_of : BoardId → Op → Bool
is_of b (StatAdd c fields) = same_board c b
is_of b op = changes_board b op

-- whether an edit makes a board, or is of it
abbrev pub touches : BoardId → Edit → Bool
touches b e = is_some (find_board b (made_boards e.stamp e.op)) || is_of b e.op

-- none of these edits makes a board or is of it
abbrev pub IsUntouched : BoardId → List Edit → Type 0
IsUntouched b es = AllByRecursion (λ e. touches b e ≡ false) es

-- none of these edits touches a stat that this one makes
abbrev pub MakesNewStats : Edit → List Edit → Type 0
MakesNewStats e es = (x : StatId) → makes e (thing.Stat x) ≡ true → AllByRecursion (λ f. touches_stat x f ≡ false) es

-- an edit that makes a board writes all its registers, and those of its stats, however late it comes
abbrev pub BoardIsMade : Type 0
BoardIsMade =
    (b : BoardId) (e : Edit) (made : Board) (low high : List Edit)
    → IsRising (low ++ e ∷ high)
    → find_board b (made_boards e.stamp e.op) ≡ Some made
    → IsWholeBoard made
    → IsUntouched b (low ++ high)
    → MakesNewStats e (low ++ high)
    → BoardShows b (low ++ e ∷ high) (as_made e.stamp made)

-- an edit of a board that comes late is put in as if it had come at its place
abbrev pub BoardTakes : Type 0
BoardTakes =
    (b : BoardId) (e : Edit) (low high : List Edit) (x : LiveBoard)
    → IsRising (low ++ e ∷ high)
    → HasSizes e
    → MakesNewStats e (low ++ high)
    → is_of b e.op ≡ true
    → BoardShows b (low ++ high) x
    → BoardShows b (low ++ e ∷ high) (board_after e.stamp e.op x)

-- an edit that neither makes a board nor is of it leaves it, but for the stat that it changes
abbrev pub BoardPassesOthers : Type 0
BoardPassesOthers =
    (b : BoardId) (e : Edit) (low high : List Edit) (x : LiveBoard)
    → IsRising (low ++ e ∷ high)
    → touches b e ≡ false
    → BoardShows b (low ++ high) x
    → BoardShows b (low ++ e ∷ high) (stat_changed e.stamp e.op x)

-- a board as one author sees it
abbrev pub shown_board : BoardId → LiveBoard → Board
shown_board b x = record {
  id = b;
  tiles = tiles_of x.cells;
  properties = shown_properties x.properties;
  stats = shown_stats x.stats;
  removed = value_or false x.removed;
}

-- a board that has the latest writes of the edits taken shows the one of the replay
abbrev pub ReplayedBoardIsShown : Type 0
ReplayedBoardIsShown =
    (b : BoardId) (es : List Edit) (x : LiveBoard) (board : Board)
    → IsRising es
    → AllFit es
    → HaveSizes es
    → find_board b (replay es).boards ≡ Some board
    → BoardShows b (taken es) x
    → shown_board b x ≡ board
