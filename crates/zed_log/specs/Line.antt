-- The line of an edit.
use Rattle.std.specs.Prelude.{ℕ, ℤ, ◌+◌, List, [], ◌∷◌, ◌++◌, length, codes, slice_index, slice_index_or, pos, Option, Some, None, Bool, if◌then◌else◌}
use Rattle.zed_types.specs.declared.names.ElemId.{ElemId}
use Rattle.zed_types.specs.declared.header.HeaderSetting.{HeaderSetting}
use Rattle.zed_types.specs.declared.header.HeaderSetting.TheVariants as header
use Rattle.zed_types.specs.declared.property.BoardSetting.{BoardSetting}
use Rattle.zed_types.specs.declared.property.BoardSetting.TheVariants as board
use Rattle.zed_types.specs.declared.stat_field.StatByte.{StatByte}
use Rattle.zed_types.specs.declared.stat_field.StatByte.TheVariants as byte
use Rattle.zed_types.specs.declared.stat_field.StatSetting.{StatSetting}
use Rattle.zed_types.specs.declared.stat_field.StatSetting.TheVariants as stat
use Rattle.zed_types.specs.declared.stat_field.StatFields.{StatFields}
use Rattle.zed_types.specs.Header.{flag_index}
use Rattle.zed_op.specs.declared.op.Op.{Op}
use Rattle.zed_op.specs.declared.op.Op.TheVariants.{Genesis, SetHeader, BoardAdd, BoardRemove, SetBoard, SetCells, StatAdd, StatRemove, SetStat, TextAdd, TextInsert, TextDelete}
use Rattle.zed_op.specs.declared.op.Edit.{Edit}
use Rattle.zed_log.specs.declared.length.Length.{Length}
use Rattle.zed_log.specs.declared.length.Length.TheVariants.{Short, Full}
use Rattle.zed_log.specs.Fields.{number, integer, colour, quoted, boolean, board_name, stat_name, text_name, element_name, optional, element, tile, place, rectangle, range, third_parameter}
use Rattle.zed_log.specs.Words.{header_number_word, key_word, side_word, board_byte_word, board_flag_word, board_text_word, stat_byte_word, stat_number_word}

-- ---- registers

-- a register of a header; flags are counted from 1
abbrev pub header_setting : HeaderSetting → List ℕ
header_setting (header.Number f n) = header_number_word f ++ integer n
header_setting (header.Key k b) = codes "key " ++ key_word k ++ boolean b
header_setting (header.Saved b) = codes "saved " ++ boolean b
header_setting (header.CurrentBoard b) = codes "current board " ++ board_name b
header_setting (header.WorldName s) = codes "world name " ++ quoted s
header_setting (header.Flag k s) = codes "flag " ++ number (1 + flag_index k) ++ 32 ∷ quoted s

-- a register of a board
abbrev pub board_setting : BoardSetting → List ℕ
board_setting (board.Byte f n) = board_byte_word f ++ number n
board_setting (board.Flag f b) = board_flag_word f ++ boolean b
board_setting (board.TimeLimit n) = codes "time limit " ++ integer n
board_setting (board.Exit d b) = codes "exit " ++ side_word d ++ optional board_name b
board_setting (board.Text f s) = board_text_word f ++ quoted s
board_setting (board.Rank n) = codes "rank " ++ number n

-- the value of a byte of a stat
abbrev pub stat_byte : StatByte → ℕ → List ℕ
stat_byte byte.UnderElement n = element n
stat_byte byte.UnderColour n = colour n
stat_byte _ n = number n

-- a register of a stat
abbrev pub stat_setting : StatSetting → List ℕ
stat_setting (stat.Byte f n) = stat_byte_word f ++ stat_byte f n
stat_setting (stat.Number f n) = stat_number_word f ++ integer n
stat_setting (stat.P3 target) = codes "p3 " ++ third_parameter target
stat_setting (stat.Follower s) = codes "follower " ++ optional stat_name s
stat_setting (stat.Leader s) = codes "leader " ++ optional stat_name s
stat_setting (stat.Text t) = codes "text " ++ optional text_name t

-- the bytes of a new stat: place, both parameters, and what is under it
unfoldable pub stat_bytes : List ℕ → List ℕ
stat_bytes b =
    place (slice_index b 0) (slice_index b 1) ++ codes " p1 " ++ number (slice_index b 2) ++ codes " p2 " ++ number (slice_index b 3) ++ codes " under " ++ element (slice_index b 4) ++ 32 ∷ colour (slice_index b 5)

-- the numbers of a new stat: both steps, and the cycle
unfoldable pub stat_numbers : List ℤ → List ℕ
stat_numbers n =
    codes "step " ++ integer (slice_index_or n 0 (pos 0)) ++ 44 ∷ integer (slice_index_or n 1 (pos 0)) ++ codes " cycle " ++ integer (slice_index_or n 2 (pos 0))

-- what a new stat is given
unfoldable pub stat_fields : StatFields → List ℕ
stat_fields f =
    stat_bytes f.bytes ++ 32 ∷ stat_numbers f.numbers ++ codes " p3 " ++ third_parameter f.p3 ++ codes " text " ++ optional text_name f.text

-- ---- edits

-- where bytes are put in
abbrev pub after_text : Option ElemId → List ℕ
after_text None = codes "first"
after_text (Some a) = codes "after " ++ element_name a

-- an op: what it does, what it names, what it sets
abbrev pub op_text : Op → List ℕ
op_text (Genesis bytes) = codes "genesis " ++ number (length bytes) ++ codes " bytes " ++ quoted bytes
op_text (SetHeader setting) = codes "header " ++ header_setting setting
op_text (BoardAdd s) = codes "add board " ++ quoted s
op_text (BoardRemove b) = codes "remove board " ++ board_name b
op_text (SetBoard b setting) = codes "board " ++ board_name b ++ 32 ∷ board_setting setting
op_text (SetCells b r t) = codes "cells board " ++ board_name b ++ 32 ∷ rectangle r ++ 32 ∷ tile t
op_text (StatAdd b f) = codes "add stat board " ++ board_name b ++ 32 ∷ stat_fields f
op_text (StatRemove s) = codes "remove stat " ++ stat_name s
op_text (SetStat s setting) = codes "stat " ++ stat_name s ++ 32 ∷ stat_setting setting
op_text TextAdd = codes "add text"
op_text (TextInsert t after bytes) = codes "insert text " ++ text_name t ++ 32 ∷ after_text after ++ 32 ∷ quoted bytes
op_text (TextDelete t r) = codes "delete text " ++ text_name t ++ codes " bytes " ++ range r

-- the same, but that two dots stand for the bytes of a world
abbrev pub short_op : Op → List ℕ
short_op (Genesis bytes) = codes "genesis " ++ number (length bytes) ++ codes " bytes .."
short_op op = op_text op

-- an op, short or in full
abbrev pub op_at : Length → Op → List ℕ
op_at Short op = short_op op
op_at Full op = op_text op

-- the line of an edit, short or in full: time, replica, op, and a line feed (10)
unfoldable pub text_at : Length → Edit → List ℕ
text_at l e = number e.stamp.time ++ 32 ∷ number e.stamp.replica ++ (codes "  " ++ op_at l e.op) ++ 10 ∷ []

-- the line of an edit, with a mark in front where it is held
abbrev pub marked_at : Length → Bool → Edit → List ℕ
marked_at l is_held e = (if is_held then codes "held " else []) ++ text_at l e

-- the line of an edit in full
abbrev pub line_text : Edit → List ℕ
line_text e = text_at Full e

-- the same with its mark
abbrev pub marked_line : Bool → Edit → List ℕ
marked_line is_held e = marked_at Full is_held e
