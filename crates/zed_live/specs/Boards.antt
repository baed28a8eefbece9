-- The boards of a live document, each under its name, in the order of their names.
use Rattle.std.specs.Prelude.{◌≡◌, true, List, [], ◌∷◌, ◌++◌, map, find, is_some, Option, Some, None, option_map}
use Rattle.std.specs.declared.cmp.Ordering.{Ordering}
use Rattle.std.specs.List.{list_any}
use Rattle.zed_types.specs.declared.stamp.Stamp.{Stamp}
use Rattle.zed_types.specs.declared.names.Name.{Name}
use Rattle.zed_types.specs.declared.names.BoardId.{BoardId}
use Rattle.zed_types.specs.declared.names.StatId.{StatId}
use Rattle.zed_types.specs.Names.{NamesRise}
use Rattle.zed_stats.specs.ByName as names
use Rattle.zed_op.specs.declared.op.Op.{Op}
use Rattle.zed_op.specs.declared.op.Op.TheVariants.{BoardRemove, SetBoard, SetCells, StatAdd, StatRemove, SetStat}
use Rattle.zed_op.specs.declared.op.Edit.{Edit}
use Rattle.zed_op.specs.declared.thing.Thing.TheVariants as thing
use Rattle.zed_op.specs.Set.{IsRising, AllFit}
use Rattle.zed_op.specs.Sizes.{HasSizes, HaveSizes}
use Rattle.zed_edit.specs.declared.plain.Board.{Board}
use Rattle.zed_edit.specs.Replay.{replay, taken}
use Rattle.zed_laws.specs.Homes.{home}
use Rattle.zed_laws.specs.Making.{makes}
use Rattle.zed_laws.specs.Winners.{latest_or, made_boards, changes_stat}
use Rattle.zed_stats.specs.Stats.{has}
use Rattle.zed_live.specs.declared.board.LiveBoard.{LiveBoard}
use Rattle.zed_live.specs.Shows.{latest_in}
use Rattle.zed_live.specs.Board.{as_made, board_after, stat_changed, is_of, BoardShows, IsUntouched, shown_board}

-- boards, each under its name
abbrev pub Boards : Type 0
Boards = List (BoardId × LiveBoard)

-- what names a board
abbrev pub board_name : BoardId → Name
board_name b = b.name

-- the order of names: by stamp, and then by index
abbrev pub board_cmp : BoardId → BoardId → Ordering
board_cmp a b = names.key_cmp board_name a b

-- the board of a name, if it is there
abbrev pub board_in : BoardId → Boards → Option LiveBoard
board_in b ys = names.under board_name b ys

-- the board that a stat is on, removed or not
abbrev pub home_in : StatId → Boards → Option BoardId
home_in x ys = option_map (λ y. y.0) (find (λ y. has x (y.1).stats) ys)

-- a board is added at its place, unless one of its name is there
abbrev pub add : BoardId → LiveBoard → Boards → Boards
add b x ys = names.add board_name b x ys

-- boards are added one after the other
abbrev pub add_all : Boards → Boards → Boards
add_all xs ys = names.add_all board_name xs ys

-- the board of a name, changed
abbrev pub change : BoardId → (LiveBoard → LiveBoard) → Boards → Boards
change b f ys = names.change board_name b f ys

-- every board changed
abbrev pub change_all : (LiveBoard → LiveBoard) → Boards → Boards
change_all f ys = map (λ y. (y.0, f y.1)) ys

-- boards as the edit with this stamp makes them, each under its name
abbrev pub all_as_made : Stamp → List Board → Boards
all_as_made s bs = map (λ b. (b.id, as_made s b)) bs

-- the boards after an edit, whenever it comes: one of them is changed, or those that it makes are added
abbrev pub boards_after : Stamp → Op → Boards → Boards
boards_after s (BoardRemove b) ys = change b (board_after s (BoardRemove b)) ys
boards_after s (SetBoard b setting) ys = change b (board_after s (SetBoard b setting)) ys
boards_after s (SetCells b cells tile) ys = change b (board_after s (SetCells b cells tile)) ys
boards_after s (StatAdd b fields) ys = change b (board_after s (StatAdd b fields)) ys
boards_after s (StatRemove x) ys = change_all (stat_changed s (StatRemove x)) ys
boards_after s (SetStat x setting) ys = change_all (stat_changed s (SetStat x setting)) ys
boards_after s op ys = add_all (all_as_made s (made_boards s op)) ys

-- one of these edits makes the board
abbrev pub IsMade : BoardId → List Edit → Type 0
IsMade b es = list_any (λ e. makes e (thing.Board b)) es ≡ true

-- what edits leave under a name: the board that they make, with their latest writes, or nothing where none of them touches it
abbrev pub IsLeft : BoardId → List Edit → Option LiveBoard → Type 0
IsLeft b es None = IsUntouched b es
IsLeft b es (Some x) = IsMade b es × BoardShows b es x

-- one of these edits makes the stat
abbrev pub IsMadeStat : StatId → List Edit → Type 0
IsMadeStat x es = list_any (λ e. makes e (thing.Stat x)) es ≡ true

-- boards in the order of their names, under each name what these edits left, of which none changes a stat that none makes
pub record BoardsShow (es : List Edit) (ys : Boards) : Type 0 where
  pub rise : NamesRise (λ y. (y.0).name) ys
  pub each : (b : BoardId) → IsLeft b es (board_in b ys)
  pub changed : (x : StatId) → list_any (λ e. changes_stat x e.op) es ≡ true → IsMadeStat x es

-- no edit makes no board
abbrev pub NoBoardIsMade : Type 0
NoBoardIsMade = BoardsShow [] []

-- the board that an edit is of, and the stat that it changes, are made by some of these
pub record ChangesMade (es : List Edit) (e : Edit) : Type 0 where
  pub board : (b : BoardId) → is_of b e.op ≡ true → IsMade b es
  pub stat : (x : StatId) → changes_stat x e.op ≡ true → IsMadeStat x es

-- an edit that comes late is put in as if it had come at its place, where what it changes is made
abbrev pub BoardsTake : Type 0
BoardsTake =
    (e : Edit) (low high : List Edit) (ys : Boards)
    → IsRising (low ++ e ∷ high)
    → HasSizes e
    → ChangesMade (low ++ high) e
    → BoardsShow (low ++ high) ys
    → BoardsShow (low ++ e ∷ high) (boards_after e.stamp e.op ys)

-- a board is there where one of these edits makes it, and a stat is on the board that the latest edit that makes it puts it on
pub record ThingsAreThere (es : List Edit) (ys : Boards) : Type 0 where
  pub boards : (b : BoardId) → is_some (board_in b ys) ≡ list_any (λ e. makes e (thing.Board b)) es
  pub stats : (x : StatId) → is_some (home_in x ys) ≡ list_any (λ e. makes e (thing.Stat x)) es
  pub homes : (x : StatId) → home_in x ys ≡ latest_or None (latest_in (home x) es)

-- boards that show edits have just the boards and the stats that these make
abbrev pub MadeThingsAreThere : Type 0
MadeThingsAreThere =
    (es : List Edit) (ys : Boards)
    → IsRising es
    → BoardsShow es ys
    → ThingsAreThere es ys

-- the boards as one author sees them
abbrev pub shown_boards : Boards → List Board
shown_boards ys = map (λ y. shown_board y.0 y.1) ys

-- boards that show the edits taken are those of the replay
abbrev pub ReplayedBoardsAreShown : Type 0
ReplayedBoardsAreShown =
    (es : List Edit) (ys : Boards)
    → IsRising es
    → AllFit es
    → HaveSizes es
    → BoardsShow (taken es) ys
    → shown_boards ys ≡ (replay es).boards
