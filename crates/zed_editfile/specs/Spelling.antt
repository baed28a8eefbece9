-- The one spelling of an edit, field by field, and of a file of edits. Numbers stand with their lowest byte first.
use Rattle.std.specs.Prelude.{◌≤◌, ℕ, ℤ, ◌+◌, Bool, if◌then◌else◌, List, [], ◌∷◌, ◌++◌, length, take, drop, Option, Some, None}
use Rattle.std.specs.Int.{w16, cast_unsigned}
use Rattle.std.specs.List.{flat_map, AllByRecursion}
use Rattle.byteorder.specs.Endian.{little_bytes}
use Rattle.zed_types.specs.declared.stamp.Stamp.{Stamp}
use Rattle.zed_types.specs.declared.names.Name.{Name as ThingName}
use Rattle.zed_types.specs.declared.names.BoardId.{BoardId}
use Rattle.zed_types.specs.declared.names.StatId.{StatId}
use Rattle.zed_types.specs.declared.names.TextId.{TextId}
use Rattle.zed_types.specs.declared.names.ElemId.{ElemId}
use Rattle.zed_types.specs.declared.tile.Tile.{Tile}
use Rattle.zed_types.specs.declared.tile.Rectangle.{Rectangle}
use Rattle.zed_types.specs.declared.header.HeaderSetting.{HeaderSetting}
use Rattle.zed_types.specs.declared.header.HeaderSetting.TheVariants as header
use Rattle.zed_types.specs.declared.property.BoardSetting.{BoardSetting}
use Rattle.zed_types.specs.declared.property.BoardSetting.TheVariants as board
use Rattle.zed_types.specs.Limits.{time_limit_property, rank_property}
use Rattle.zed_types.specs.declared.stat_field.ThirdParameter.{ThirdParameter}
use Rattle.zed_types.specs.declared.stat_field.ThirdParameter.TheVariants as third
use Rattle.zed_types.specs.declared.stat_field.StatSetting.{StatSetting}
use Rattle.zed_types.specs.declared.stat_field.StatSetting.TheVariants as stat
use Rattle.zed_types.specs.declared.stat_field.StatFields.{StatFields}
use Rattle.zed_types.specs.Header.{key_index, flag_index, header_number_index}
use Rattle.zed_types.specs.Board.{board_byte_field, board_flag_field, side_field, board_text_field}
use Rattle.zed_types.specs.Stat.{stat_byte_field, stat_number_field}
use Rattle.zed_op.specs.declared.op.Op.{Op}
use Rattle.zed_op.specs.declared.op.Op.TheVariants.{Genesis, SetHeader, BoardAdd, BoardRemove, SetBoard, SetCells, StatAdd, StatRemove, SetStat, TextAdd, TextInsert, TextDelete}
use Rattle.zed_op.specs.declared.op.Edit.{Edit}

-- ---- kinds of fields

-- a number in n bytes
unfoldable pub number : ℕ → ℕ → List ℕ
number n x = little_bytes n x

-- a signed number in two bytes
abbrev pub integer : ℤ → List ℕ
integer z = number 2 (cast_unsigned w16 z)

-- a byte 0 or 1
abbrev pub boolean : Bool → List ℕ
boolean b = (if b then 1 else 0) ∷ []

-- a length byte and the bytes
abbrev pub string : List ℕ → List ℕ
string s = length s ∷ s

-- a time in six bytes and a replica in two
abbrev pub stamp : Stamp → List ℕ
stamp s = number 6 s.time ++ number 2 s.replica

-- the stamp of a thing and its index, twelve bytes
unfoldable pub name : ThingName → List ℕ
name n = stamp n.stamp ++ number 4 n.index

-- the name of a board
abbrev pub board_name : BoardId → List ℕ
board_name b = name b.name

-- the name of a stat
abbrev pub stat_name : StatId → List ℕ
stat_name s = name s.name

-- the name of a text
abbrev pub text_name : TextId → List ℕ
text_name t = name t.name

-- the name of a byte of a text
abbrev pub element_name : ElemId → List ℕ
element_name a = name a.name

-- a tag, and the name where there is one
abbrev pub optional : {A : Type 0} → (A → List ℕ) → Option A → List ℕ
optional spell None = 0 ∷ []
optional spell (Some x) = 1 ∷ spell x

-- an element and a colour
abbrev pub tile : Tile → List ℕ
tile t = t.element ∷ t.colour ∷ []

-- four bytes
abbrev pub rectangle : Rectangle → List ℕ
rectangle r = r.left ∷ r.top ∷ r.right ∷ r.bottom ∷ []

-- a tag 0 and a byte, or a tag 1 and a board
abbrev pub third_parameter : ThirdParameter → List ℕ
third_parameter (third.Byte n) = 0 ∷ n ∷ []
third_parameter (third.Board b) = 1 ∷ board_name b

-- ---- registers, each under its number

-- a register of a header
abbrev pub header_setting : HeaderSetting → List ℕ
header_setting (header.Number f n) = header_number_index f ∷ integer n
header_setting (header.Key k b) = (9 + key_index k) ∷ boolean b
header_setting (header.Saved b) = 16 ∷ boolean b
header_setting (header.CurrentBoard b) = 17 ∷ board_name b
header_setting (header.WorldName s) = 18 ∷ string s
header_setting (header.Flag k s) = (19 + flag_index k) ∷ string s

-- a register of a board
abbrev pub board_setting : BoardSetting → List ℕ
board_setting (board.Byte f n) = board_byte_field f ∷ n ∷ []
board_setting (board.Flag f b) = board_flag_field f ∷ boolean b
board_setting (board.TimeLimit n) = time_limit_property ∷ integer n
board_setting (board.Exit d b) = side_field d ∷ optional board_name b
board_setting (board.Text f s) = board_text_field f ∷ string s
board_setting (board.Rank n) = rank_property ∷ number 2 n

-- a register of a stat
abbrev pub stat_setting : StatSetting → List ℕ
stat_setting (stat.Byte f n) = stat_byte_field f ∷ n ∷ []
stat_setting (stat.Number f n) = stat_number_field f ∷ integer n
stat_setting (stat.P3 target) = 8 ∷ third_parameter target
stat_setting (stat.Follower s) = 9 ∷ optional stat_name s
stat_setting (stat.Leader s) = 10 ∷ optional stat_name s
stat_setting (stat.Text t) = 13 ∷ optional text_name t

-- what a new stat is given
abbrev pub stat_fields : StatFields → List ℕ
stat_fields f =
    take 2 f.bytes ++ flat_map integer f.numbers ++ take 2 (drop 2 f.bytes) ++ third_parameter f.p3 ++ drop 2 (drop 2 f.bytes) ++ optional text_name f.text

-- ---- edits

-- the number of an op, and its fields
abbrev pub op_text : Op → List ℕ
op_text (Genesis bytes) = 1 ∷ bytes
op_text (SetHeader setting) = 2 ∷ header_setting setting
op_text (BoardAdd s) = 3 ∷ string s
op_text (BoardRemove b) = 4 ∷ board_name b
op_text (SetBoard b setting) = 5 ∷ board_name b ++ board_setting setting
op_text (SetCells b r t) = 6 ∷ board_name b ++ rectangle r ++ tile t
op_text (StatAdd b f) = 7 ∷ board_name b ++ stat_fields f
op_text (StatRemove s) = 8 ∷ stat_name s
op_text (SetStat s setting) = 9 ∷ stat_name s ++ stat_setting setting
op_text TextAdd = 10 ∷ []
op_text (TextInsert t after bytes) = 11 ∷ text_name t ++ optional element_name after ++ bytes
op_text (TextDelete t r) = 12 ∷ text_name t ++ stamp r.stamp ++ number 4 r.first ++ number 4 r.last

-- the body of a record
unfoldable pub spelling : Edit → List ℕ
spelling e = stamp e.stamp ++ op_text e.op

-- the length of the body, and the body
unfoldable pub record_text : Edit → List ℕ
record_text e = number 4 (length (spelling e)) ++ spelling e

-- ---- versions

-- a version has this register of a board: version 1 has no rank
abbrev pub IsPropertyOf : ℕ → BoardSetting → Type 0
IsPropertyOf version (board.Rank n) = 2 ≤ version
IsPropertyOf version _ = Unit {0}

-- a version has this op
abbrev pub IsOpOf : ℕ → Op → Type 0
IsOpOf version (SetBoard b setting) = IsPropertyOf version setting
IsOpOf version _ = Unit {0}

-- a version has a spelling of this edit, the same as each other version that has one
abbrev pub IsOf : ℕ → Edit → Type 0
IsOf version e = IsOpOf version e.op

-- a version has a spelling of each of these edits
abbrev pub AreOf : ℕ → List Edit → Type 0
AreOf version es = AllByRecursion (IsOf version) es

-- ---- files

-- `ZED`, the version, and the number of the world
unfoldable pub head_text : ℕ → ℕ → List ℕ
head_text version world = (90 ∷ 69 ∷ 68 ∷ version ∷ []) ++ number 8 world

-- a head, and a record for each edit
abbrev pub text_of : ℕ → ℕ → List Edit → List ℕ
text_of version world es = head_text version world ++ flat_map record_text es

-- the text of a file as it is written: in version 2
abbrev pub file_text : ℕ → List Edit → List ℕ
file_text world es = text_of 2 world es
