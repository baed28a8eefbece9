-- Each field of a board is overwritten by what an edit sets.
use Rattle.std.proofs.Common.{◌≡◌, ◌<◌, ◌+◌, ℕ, Bool, true, false, cond, [], length, get_or, ltb, Some, None, refl, ap, ◌∙◌, sym, subst, arith}
use Rattle.zed_types.specs.declared.names.BoardId.{BoardId}
use Rattle.zed_types.specs.declared.tile.TheConstants.{TILES}
use Rattle.zed_types.specs.declared.property.Side.{Side}
use Rattle.zed_types.specs.declared.property.Side.TheVariants.{North, South, West, East}
use Rattle.zed_types.specs.declared.property.BoardByte.{BoardByte}
use Rattle.zed_types.specs.declared.property.BoardByte.TheVariants.{MaxShots, StartX, StartY}
use Rattle.zed_types.specs.declared.property.BoardFlag.{BoardFlag}
use Rattle.zed_types.specs.declared.property.BoardFlag.TheVariants.{Dark, ReEnter}
use Rattle.zed_types.specs.declared.property.BoardText.{BoardText}
use Rattle.zed_types.specs.declared.property.BoardText.TheVariants.{Name, Message}
use Rattle.zed_types.specs.declared.property.BoardSetting.TheVariants as property
use Rattle.zed_types.specs.Board.{board_byte_index, board_flag_index, side_index, board_text_index}
use Rattle.zed_types.specs.Table.{is_inside, place_at}
use Rattle.zed_op.specs.declared.op.Op.{Op}
use Rattle.zed_op.specs.declared.op.Op.TheVariants.{BoardRemove, SetBoard, SetCells}
use Rattle.zed_edit.specs.declared.plain.Board.{Board}
use Rattle.zed_edit.specs.Board.{empty_tile}
use Rattle.zed_laws.specs.Registers.{overwritten}
use Rattle.zed_laws.proofs.RegularSteps.{ReadIsNormal}
use Rattle.zed_laws.specs.Fields.{Field, board_byte, board_flag, time_limit, rank, exit, board_text, cell, board_removed}
use Rattle.zed_laws.specs.Winners.{GreatestStampWins, of_board}
use Rattle.zed_laws.specs.Whole.{IsWholeBoard}
use Rattle.zed_laws.proofs.BoardReads.{on_board, IsBoardField, read-board}
use Rattle.zed_laws.proofs.Found.{written-at, get-map_from}
use Rattle.zed_laws.proofs.Winning.{IsStepwise, wins}

pub byte-within : (f : BoardByte) → ltb (board_byte_index f) 3 ≡ true
byte-within MaxShots = refl
byte-within StartX = refl
byte-within StartY = refl

pub flag-within : (f : BoardFlag) → ltb (board_flag_index f) 2 ≡ true
flag-within Dark = refl
flag-within ReEnter = refl

pub side-within : (f : Side) → ltb (side_index f) 4 ≡ true
side-within North = refl
side-within South = refl
side-within West = refl
side-within East = refl

pub text-within : (f : BoardText) → ltb (board_text_index f) 2 ≡ true
text-within Name = refl
text-within Message = refl

-- a field is overwritten by what an edit sets
abbrev Sets : {V : Type 0} → Field Board V → Type 0
Sets f = (op : Op) (b : Board) → IsWholeBoard b → f.value (on_board op b) ≡ overwritten (f.value b) (f.set op)

byte-sets : (f : BoardByte) → Sets (board_byte f)
byte-sets f (SetBoard c (property.Byte g v)) b r =
    written-at 0 b.properties.bytes 3 (board_byte_index f) (board_byte_index g) v r.bytes (byte-within f)
byte-sets f (SetBoard c _) b r = refl
byte-sets f _ b r = refl

pub is_byte : (f : BoardByte) → IsBoardField (board_byte f)
is_byte f = record { sets = byte-sets f; beside = λ b ss. refl }

flag-sets : (f : BoardFlag) → Sets (board_flag f)
flag-sets f (SetBoard c (property.Flag g v)) b r =
    written-at false b.properties.flags 2 (board_flag_index f) (board_flag_index g) v r.flags (flag-within f)
flag-sets f (SetBoard c _) b r = refl
flag-sets f _ b r = refl

pub is_flag : (f : BoardFlag) → IsBoardField (board_flag f)
is_flag f = record { sets = flag-sets f; beside = λ b ss. refl }

time_limit-sets : Sets time_limit
time_limit-sets (SetBoard c (property.TimeLimit v)) b r = refl
time_limit-sets (SetBoard c _) b r = refl
time_limit-sets _ b r = refl

pub is_time_limit : IsBoardField time_limit
is_time_limit = record { sets = time_limit-sets; beside = λ b ss. refl }

rank-sets : Sets rank
rank-sets (SetBoard c (property.Rank v)) b r = refl
rank-sets (SetBoard c _) b r = refl
rank-sets _ b r = refl

pub is_rank : IsBoardField rank
is_rank = record { sets = rank-sets; beside = λ b ss. refl }

exit-sets : (f : Side) → Sets (exit f)
exit-sets f (SetBoard c (property.Exit g v)) b r =
    written-at None b.properties.exits 4 (side_index f) (side_index g) v r.exits (side-within f)
exit-sets f (SetBoard c _) b r = refl
exit-sets f _ b r = refl

pub is_exit : (f : Side) → IsBoardField (exit f)
is_exit f = record { sets = exit-sets f; beside = λ b ss. refl }

text-sets : (f : BoardText) → Sets (board_text f)
text-sets f (SetBoard c (property.Text g v)) b r =
    written-at [] b.properties.texts 2 (board_text_index f) (board_text_index g) v r.texts (text-within f)
text-sets f (SetBoard c _) b r = refl
text-sets f _ b r = refl

pub is_text : (f : BoardText) → IsBoardField (board_text f)
is_text f = record { sets = text-sets f; beside = λ b ss. refl }

cell-sets : (i : ℕ) → i < TILES → Sets (cell i)
cell-sets i lt (SetCells c cells tile) b r =
    let inside : i < length b.tiles = subst (λ n. i < n) (sym r.tiles) lt in
    get-map_from (λ k old. cond (is_inside cells (place_at k)) tile old) 0 empty_tile b.tiles i inside
    ∙ ap (λ k. cond (is_inside cells (place_at k)) tile (get_or b.tiles i empty_tile)) from_0
    ∙ go (is_inside cells (place_at i))
  where
    from_0 : 0 + i ≡ i
    from_0 = omega arith

    go : (v : Bool) → cond v tile (get_or b.tiles i empty_tile) ≡ overwritten (get_or b.tiles i empty_tile) (cond v (Some tile) None)
    go true = refl
    go false = refl
cell-sets i lt _ b r = refl

pub is_cell : (i : ℕ) → i < TILES → IsBoardField (cell i)
is_cell i lt = record { sets = cell-sets i lt; beside = λ b ss. refl }

removed-sets : Sets board_removed
removed-sets (BoardRemove c) b r = refl
removed-sets _ b r = refl

pub is_removed : IsBoardField board_removed
is_removed = record { sets = removed-sets; beside = λ b ss. refl }

-- ---- each is a register

module _ {V : Type 0} (f : Field Board V) (law : IsBoardField f) (b : BoardId) where
  steps : IsStepwise (of_board b f)
  steps = record { done = λ p e fresh whole c. read-board f law b e.stamp e.op p fresh whole.boards c; kept = λ p e. refl }

  pub board-wins : ReadIsNormal → GreatestStampWins (of_board b f)
  board-wins normal = wins normal (of_board b f) steps
