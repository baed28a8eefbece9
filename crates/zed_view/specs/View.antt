-- What a view shows, by the numbers of things in the order in which they were made.
use Rattle.std.specs.Prelude.{ℕ, ℤ, Bool, true, false, List, [], slice_index_or, Option, None}
use Rattle.zed_types.specs.declared.names.BoardId.{BoardId}
use Rattle.zed_types.specs.declared.property.Side.{Side}
use Rattle.zed_types.specs.declared.property.BoardByte.{BoardByte}
use Rattle.zed_types.specs.declared.property.BoardFlag.{BoardFlag}
use Rattle.zed_types.specs.declared.property.BoardText.{BoardText}
use Rattle.zed_types.specs.declared.stat_field.StatByte.{StatByte}
use Rattle.zed_types.specs.declared.stat_field.StatNumber.{StatNumber}
use Rattle.zed_types.specs.Board.{side_index, board_byte_index, board_flag_index, board_text_index}
use Rattle.zed_types.specs.Stat.{stat_byte_index, stat_number_index}
use Rattle.zed_edit.specs.declared.plain.Properties.{Properties}
use Rattle.zed_edit.specs.declared.plain.Board.{Board}
use Rattle.zed_edit.specs.declared.plain.Stat.{Stat}
use Rattle.zed_edit.specs.declared.plain.Plain.{Plain}
use Rattle.zed_types.specs.Names.{title, stat_of}
use Rattle.zed_edit.specs.Stat.{new_stat, player_fields}
use Rattle.zed_laws.specs.Fields.{number_at}
use Rattle.zed_edit.specs.Board.{new_board}

-- a stat to speak of where a number is past the end
abbrev pub no_stat : Stat
no_stat = new_stat (stat_of title.name.stamp 0) true player_fields

-- the board to speak of where the number of a board is past the end
unfoldable pub no_board : Board
no_board = new_board title no_stat.id []

-- board i of those that were made, removed ones too
abbrev pub board_at : Plain → ℕ → Board
board_at p i = slice_index_or p.boards i no_board

-- stat j of those that were made on a board, removed ones too
abbrev pub stat_at : Board → ℕ → Stat
stat_at b j = slice_index_or b.stats j no_stat

-- a property that is one byte
abbrev pub board_byte : BoardByte → Properties → ℕ
board_byte f p = slice_index_or p.bytes (board_byte_index f) 0

-- a property that is on or off
abbrev pub board_flag : BoardFlag → Properties → Bool
board_flag f p = slice_index_or p.flags (board_flag_index f) false

-- the board behind a side
abbrev pub exit : Side → Properties → Option BoardId
exit f p = slice_index_or p.exits (side_index f) None

-- a property that is a string
abbrev pub board_text : BoardText → Properties → List ℕ
board_text f p = slice_index_or p.texts (board_text_index f) []

-- a field that is one byte
abbrev pub stat_byte : StatByte → Stat → ℕ
stat_byte f s = slice_index_or s.fields.bytes (stat_byte_index f) 0

-- a field that is a signed number
abbrev pub stat_number : StatNumber → Stat → ℤ
stat_number f s = number_at (stat_number_index f) s
