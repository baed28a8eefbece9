-- The fields of headers, boards and stats: what each holds, and what an edit of the thing sets it to.
use Rattle.std.specs.Prelude.{ℕ, ℤ, pos, Bool, true, false, ◌||◌, ◌==◌, if◌then◌else◌, List, [], slice_index_or, Option, Some, None}
use Rattle.zed_types.specs.declared.names.BoardId.{BoardId}
use Rattle.zed_types.specs.declared.names.StatId.{StatId}
use Rattle.zed_types.specs.declared.names.TextId.{TextId}
use Rattle.zed_types.specs.declared.tile.Tile.{Tile}
use Rattle.zed_types.specs.declared.header.HeaderNumber.{HeaderNumber}
use Rattle.zed_types.specs.declared.header.KeyColour.{KeyColour}
use Rattle.zed_types.specs.declared.header.FlagSlot.{FlagSlot}
use Rattle.zed_types.specs.declared.header.HeaderSetting.{HeaderSetting}
use Rattle.zed_types.specs.declared.header.HeaderSetting.TheVariants as header
use Rattle.zed_types.specs.declared.property.Side.{Side}
use Rattle.zed_types.specs.declared.property.BoardByte.{BoardByte}
use Rattle.zed_types.specs.declared.property.BoardFlag.{BoardFlag}
use Rattle.zed_types.specs.declared.property.BoardText.{BoardText}
use Rattle.zed_types.specs.declared.property.BoardSetting.{BoardSetting}
use Rattle.zed_types.specs.declared.property.BoardSetting.TheVariants as board
use Rattle.zed_types.specs.declared.stat_field.StatByte.{StatByte}
use Rattle.zed_types.specs.declared.stat_field.StatNumber.{StatNumber}
use Rattle.zed_types.specs.declared.stat_field.ThirdParameter.{ThirdParameter}
use Rattle.zed_types.specs.declared.stat_field.StatSetting.{StatSetting}
use Rattle.zed_types.specs.declared.stat_field.StatSetting.TheVariants as stat
use Rattle.zed_types.specs.Header.{header_number_index, key_index, flag_index}
use Rattle.zed_types.specs.Board.{board_byte_index, board_flag_index, side_index, board_text_index}
use Rattle.zed_types.specs.Stat.{stat_byte_index, stat_number_index, stat_number_field}
use Rattle.zed_types.specs.Table.{is_inside, place_at}
use Rattle.zed_op.specs.declared.op.Op.{Op}
use Rattle.zed_op.specs.declared.op.Op.TheVariants.{SetHeader, BoardRemove, SetBoard, SetCells, StatRemove, SetStat}
use Rattle.zed_edit.specs.declared.plain.Header.{Header}
use Rattle.zed_edit.specs.declared.plain.Board.{Board}
use Rattle.zed_edit.specs.declared.plain.Stat.{Stat}
use Rattle.zed_edit.specs.Board.{empty_tile}

-- a field of a thing: the value that it holds, and the value that an edit of the thing sets it to, if it does
pub record Field (X V : Type 0) : Type 0 where
  pub value : X → V
  pub set : Op → Option V

-- the value that is set, if it is set at this place of a table
abbrev pub if_at : {V : Type 0} → ℕ → ℕ → V → Option V
if_at i j v = if j == i then Some v else None

-- ---- the header

-- what an edit sets of the header
abbrev pub by_header : {V : Type 0} → (HeaderSetting → Option V) → Op → Option V
by_header set (SetHeader setting) = set setting
by_header set _ = None

-- what a setting gives a number of the header
abbrev pub number_set : HeaderNumber → HeaderSetting → Option ℤ
number_set f (header.Number g n) = if_at (header_number_index f) (header_number_index g) n
number_set f _ = None

-- a number of the header
abbrev pub header_number : HeaderNumber → Field Header ℤ
header_number f = record { value = λ h. slice_index_or h.numbers (header_number_index f) (pos 0); set = by_header (number_set f) }

-- what a setting gives a key
abbrev pub key_set : KeyColour → HeaderSetting → Option Bool
key_set k (header.Key j b) = if_at (key_index k) (key_index j) b
key_set k _ = None

-- whether the player has a key
abbrev pub key : KeyColour → Field Header Bool
key k = record { value = λ h. slice_index_or h.keys (key_index k) false; set = by_header (key_set k) }

-- what a setting gives the mark of a saved game
abbrev pub saved_set : HeaderSetting → Option Bool
saved_set (header.Saved b) = Some b
saved_set _ = None

-- whether the world is a saved game
abbrev pub saved : Field Header Bool
saved = record { value = λ h. h.saved; set = by_header saved_set }

-- what a setting gives the current board
abbrev pub current_board_set : HeaderSetting → Option BoardId
current_board_set (header.CurrentBoard b) = Some b
current_board_set _ = None

-- the board that the player is on
abbrev pub current_board : Field Header BoardId
current_board = record { value = λ h. h.current_board; set = by_header current_board_set }

-- what a setting gives the name of the world
abbrev pub world_name_set : HeaderSetting → Option (List ℕ)
world_name_set (header.WorldName s) = Some s
world_name_set _ = None

-- the name of the world
abbrev pub world_name : Field Header (List ℕ)
world_name = record { value = λ h. h.world_name; set = by_header world_name_set }

-- what a setting gives a flag of the header
abbrev pub flag_set : FlagSlot → HeaderSetting → Option (List ℕ)
flag_set k (header.Flag j s) = if_at (flag_index k) (flag_index j) s
flag_set k _ = None

-- a flag of the header
abbrev pub flag : FlagSlot → Field Header (List ℕ)
flag k = record { value = λ h. slice_index_or h.flags (flag_index k) []; set = by_header (flag_set k) }

-- ---- boards

-- what an edit sets of the properties of a board
abbrev pub by_board : {V : Type 0} → (BoardSetting → Option V) → Op → Option V
by_board set (SetBoard b setting) = set setting
by_board set _ = None

-- what a setting gives a byte of a board
abbrev pub board_byte_set : BoardByte → BoardSetting → Option ℕ
board_byte_set f (board.Byte g n) = if_at (board_byte_index f) (board_byte_index g) n
board_byte_set f _ = None

-- a byte of a board
abbrev pub board_byte : BoardByte → Field Board ℕ
board_byte f = record { value = λ b. slice_index_or b.properties.bytes (board_byte_index f) 0; set = by_board (board_byte_set f) }

-- what a setting gives a flag of a board
abbrev pub board_flag_set : BoardFlag → BoardSetting → Option Bool
board_flag_set f (board.Flag g v) = if_at (board_flag_index f) (board_flag_index g) v
board_flag_set f _ = None

-- whether a board is dark, and whether a player who is hurt enters it again
abbrev pub board_flag : BoardFlag → Field Board Bool
board_flag f = record { value = λ b. slice_index_or b.properties.flags (board_flag_index f) false; set = by_board (board_flag_set f) }

-- what a setting gives the time limit
abbrev pub time_limit_set : BoardSetting → Option ℤ
time_limit_set (board.TimeLimit n) = Some n
time_limit_set _ = None

-- the time limit of a board
abbrev pub time_limit : Field Board ℤ
time_limit = record { value = λ b. b.properties.time_limit; set = by_board time_limit_set }

-- what a setting gives the rank
abbrev pub rank_set : BoardSetting → Option ℕ
rank_set (board.Rank n) = Some n
rank_set _ = None

-- the rank of a board
abbrev pub rank : Field Board ℕ
rank = record { value = λ b. b.properties.rank; set = by_board rank_set }

-- what a setting gives an exit
abbrev pub exit_set : Side → BoardSetting → Option (Option BoardId)
exit_set f (board.Exit g b) = if_at (side_index f) (side_index g) b
exit_set f _ = None

-- where a side of a board leads
abbrev pub exit : Side → Field Board (Option BoardId)
exit f = record { value = λ b. slice_index_or b.properties.exits (side_index f) None; set = by_board (exit_set f) }

-- what a setting gives a text of a board
abbrev pub board_text_set : BoardText → BoardSetting → Option (List ℕ)
board_text_set f (board.Text g s) = if_at (board_text_index f) (board_text_index g) s
board_text_set f _ = None

-- the name and the message of a board
abbrev pub board_text : BoardText → Field Board (List ℕ)
board_text f = record { value = λ b. slice_index_or b.properties.texts (board_text_index f) []; set = by_board (board_text_set f) }

-- what an edit gives cell i
abbrev pub cell_set : ℕ → Op → Option Tile
cell_set i (SetCells b cells tile) = if is_inside cells (place_at i) then Some tile else None
cell_set i _ = None

-- cell i of a board
abbrev pub cell : ℕ → Field Board Tile
cell i = record { value = λ b. slice_index_or b.tiles i empty_tile; set = cell_set i }

-- what an edit gives the mark of a removed board
abbrev pub board_removed_set : Op → Option Bool
board_removed_set (BoardRemove b) = Some true
board_removed_set _ = None

-- whether a board is removed
abbrev pub board_removed : Field Board Bool
board_removed = record { value = λ b. b.removed; set = board_removed_set }

-- ---- stats

-- what an edit sets of the fields of a stat
abbrev pub by_stat : {V : Type 0} → (StatSetting → Option V) → Op → Option V
by_stat set (SetStat x setting) = set setting
by_stat set _ = None

-- what a setting gives a byte of a stat
abbrev pub stat_byte_set : StatByte → StatSetting → Option ℕ
stat_byte_set f (stat.Byte g n) = if_at (stat_byte_index f) (stat_byte_index g) n
stat_byte_set f _ = None

-- a byte of a stat
abbrev pub stat_byte : StatByte → Field Stat ℕ
stat_byte f = record { value = λ s. slice_index_or s.fields.bytes (stat_byte_index f) 0; set = by_stat (stat_byte_set f) }

-- a number of a stat, by its place; its position is at none
abbrev pub number_at : Option ℕ → Stat → ℤ
number_at (Some i) s = slice_index_or s.fields.numbers i (pos 0)
number_at None s = s.position

-- what a setting gives a number of a stat
abbrev pub stat_number_set : StatNumber → StatSetting → Option ℤ
stat_number_set f (stat.Number g n) = if_at (stat_number_field f) (stat_number_field g) n
stat_number_set f _ = None

-- a number of a stat
abbrev pub stat_number : StatNumber → Field Stat ℤ
stat_number f = record { value = number_at (stat_number_index f); set = by_stat (stat_number_set f) }

-- what a setting gives the third parameter
abbrev pub third_parameter_set : StatSetting → Option ThirdParameter
third_parameter_set (stat.P3 p) = Some p
third_parameter_set _ = None

-- the third parameter of a stat
abbrev pub third_parameter : Field Stat ThirdParameter
third_parameter = record { value = λ s. s.fields.p3; set = by_stat third_parameter_set }

-- what a setting gives the follower
abbrev pub follower_set : StatSetting → Option (Option StatId)
follower_set (stat.Follower o) = Some o
follower_set _ = None

-- the stat that follows a stat
abbrev pub follower : Field Stat (Option StatId)
follower = record { value = λ s. s.follower; set = by_stat follower_set }

-- what a setting gives the leader
abbrev pub leader_set : StatSetting → Option (Option StatId)
leader_set (stat.Leader o) = Some o
leader_set _ = None

-- the stat that a stat follows
abbrev pub leader : Field Stat (Option StatId)
leader = record { value = λ s. s.leader; set = by_stat leader_set }

-- what a setting gives the text of a stat
abbrev pub stat_text_set : StatSetting → Option (Option TextId)
stat_text_set (stat.Text o) = Some o
stat_text_set _ = None

-- the text that is the program of a stat
abbrev pub stat_text : Field Stat (Option TextId)
stat_text = record { value = λ s. s.fields.text; set = by_stat stat_text_set }

-- what no edit sets
abbrev pub set_by_none : {V : Type 0} → Op → Option V
set_by_none op = None

-- whether a stat is the player of its board: its making alone says so
abbrev pub is_player : Field Stat Bool
is_player = record { value = λ s. s.is_player; set = set_by_none }

-- what an edit gives the mark of a removed stat
abbrev pub stat_removed_set : Op → Option Bool
stat_removed_set (StatRemove x) = Some true
stat_removed_set _ = None

-- whether a stat is removed, or is a player, which stays: a removal leaves no other
abbrev pub removed_or_player : Field Stat Bool
removed_or_player = record { value = λ s. s.removed || s.is_player; set = stat_removed_set }
