-- What the body of a record says: from left to right, with the first fault that is met.
use Rattle.std.specs.Prelude.{◌≡◌, ◌⊎◌, ℕ, ℤ, ◌-◌, Bool, true, false, ◌&&◌, ◌==◌, nat_le, nat_lt, if◌then◌else◌, List, [], ◌∷◌, ◌++◌, length, take, drop, Option, Some, None, Result, Ok, Err}
use Rattle.std.specs.Int.{w16, cast_signed}
use Rattle.byteorder.specs.Endian.{little_number}
use Rattle.zed_types.specs.Steps.{◌>>=◌}
use Rattle.zed_types.specs.declared.stamp.Stamp.{Stamp}
use Rattle.zed_types.specs.declared.names.Name.{Name as ThingName}
use Rattle.zed_types.specs.declared.names.BoardId.{BoardId}
use Rattle.zed_types.specs.declared.names.StatId.{StatId}
use Rattle.zed_types.specs.declared.names.TextId.{TextId}
use Rattle.zed_types.specs.declared.names.ElemId.{ElemId}
use Rattle.zed_types.specs.declared.tile.Tile.{Tile}
use Rattle.zed_types.specs.declared.tile.Rectangle.{Rectangle}
use Rattle.zed_types.specs.declared.text.ByteRange.{ByteRange}
use Rattle.zed_types.specs.declared.header.KeyColour.{KeyColour}
use Rattle.zed_types.specs.declared.header.KeyColour.TheVariants.{Blue, Green, Cyan, Red, Purple, Yellow, White}
use Rattle.zed_types.specs.declared.header.FlagSlot.{FlagSlot}
use Rattle.zed_types.specs.declared.header.FlagSlot.TheVariants.{First, Second, Third, Fourth, Fifth, Sixth, Seventh, Eighth, Ninth, Tenth}
use Rattle.zed_types.specs.declared.header.HeaderSetting.{HeaderSetting}
use Rattle.zed_types.specs.declared.header.HeaderSetting.TheVariants as header
use Rattle.zed_types.specs.declared.property.BoardSetting.{BoardSetting}
use Rattle.zed_types.specs.declared.property.BoardSetting.TheVariants as board
use Rattle.zed_types.specs.Limits.{time_limit_property, rank_property}
use Rattle.zed_types.specs.declared.stat_field.ThirdParameter.{ThirdParameter}
use Rattle.zed_types.specs.declared.stat_field.ThirdParameter.TheVariants as third
use Rattle.zed_types.specs.declared.stat_field.StatSetting.{StatSetting}
use Rattle.zed_types.specs.declared.stat_field.StatSetting.TheVariants as stat
use Rattle.zed_types.specs.declared.stat_field.StatFields.{StatFields}
use Rattle.zed_types.specs.Header.{header_number_of_field}
use Rattle.zed_types.specs.Board.{board_byte_of_field, board_flag_of_field, side_of_field, board_text_of_field}
use Rattle.zed_types.specs.Stat.{stat_byte_of_field, stat_number_of_field}
use Rattle.zed_op.specs.declared.cause.Cause.{Cause}
use Rattle.zed_op.specs.declared.cause.Cause.TheVariants.{Short, Op as BadOp, Tag, Long}
use Rattle.zed_op.specs.declared.op.Op.{Op}
use Rattle.zed_op.specs.declared.op.Op.TheVariants.{Genesis, SetHeader, BoardAdd, BoardRemove, SetBoard, SetCells, StatAdd, StatRemove, SetStat, TextAdd, TextInsert, TextDelete}
use Rattle.zed_op.specs.declared.op.Edit.{Edit}
use Rattle.zed_op.specs.Fit.{fault}
use Rattle.zed_op.specs.Growth.{has_string}
use Rattle.zed_editfile.specs.declared.error.EditFileError.{EditFileError}
use Rattle.zed_editfile.specs.declared.error.EditFileError.TheVariants.{Memory, BadEdit}

-- what a function returned, seen by view, is what reading gives
abbrev pub Gives : {X Y : Type 0} → (X → Y) → Result X EditFileError → Result Y EditFileError → Type 0
Gives view (Ok x) read = read ≡ Ok (view x)
Gives view (Err e) read = read ≡ Err e

-- the same of a function that may want memory, which is so where its memory ran out
abbrev pub GivesUnless : {X Y : Type 0} → Type 0 → (X → Y) → Result X EditFileError → Result Y EditFileError → Type 0
GivesUnless wants view (Ok x) read = read ≡ Ok (view x)
GivesUnless wants view (Err e) read = ((e ≡ Memory) × wants) ⊎ (read ≡ Err e)

-- a field is a value and the bytes after it, or a fault
abbrev pub Field : Type 0 → Type 0
Field A = Result (A × List ℕ) EditFileError

-- whether a field was read whose value is such
abbrev pub reads_such : {A : Type 0} → (A → Bool) → Field A → Bool
reads_such test (Ok x) = test x.0
reads_such test (Err e) = false

-- what a function makes of the value of a field
abbrev pub mapped : {A B : Type 0} → (A → B) → Field A → Field B
mapped f read = read >>= λ x. Ok (f x.0, x.1)

-- ---- kinds of fields

-- a byte
unfoldable pub byte_at : List ℕ → Field ℕ
byte_at [] = Err (BadEdit Short)
byte_at (b ∷ rest) = Ok (b, rest)

-- a number in n bytes
unfoldable pub number_at : ℕ → List ℕ → Field ℕ
number_at n bytes = if nat_lt (length bytes) n then Err (BadEdit Short) else Ok (little_number n bytes, drop n bytes)

-- a number of 16 bits with a sign
unfoldable pub integer_at : List ℕ → Field ℤ
integer_at bytes = do
  n ← number_at 2 bytes
  Ok (cast_signed w16 n.0, n.1)

-- a byte 0 or 1; any other is a fault
unfoldable pub boolean_at : List ℕ → Field Bool
boolean_at bytes = do
  b ← byte_at bytes
  if b.0 == 0 then Ok (false, b.1) else if b.0 == 1 then Ok (true, b.1) else Err (BadEdit Tag)

-- a length byte, and so many bytes
unfoldable pub string_at : List ℕ → Field (List ℕ)
string_at bytes = do
  n ← byte_at bytes
  if nat_lt (length n.1) n.0 then Err (BadEdit Short) else Ok (take n.0 n.1, drop n.0 n.1)

-- a time in six bytes and a replica in two
unfoldable pub stamp_at : List ℕ → Field Stamp
stamp_at bytes = do
  time ← number_at 6 bytes
  replica ← number_at 2 time.1
  Ok (record { time = time.0; replica = replica.0 }, replica.1)

-- a stamp and an index
unfoldable pub name_at : List ℕ → Field ThingName
name_at bytes = do
  made ← stamp_at bytes
  n ← number_at 4 made.1
  Ok (record { stamp = made.0; index = n.0 }, n.1)

-- the board of a name
abbrev pub board_with : ThingName → BoardId
board_with n = record { name = n }

-- the stat of a name
abbrev pub stat_with : ThingName → StatId
stat_with n = record { name = n }

-- the text of a name
abbrev pub text_with : ThingName → TextId
text_with n = record { name = n }

-- the byte of a text of a name
abbrev pub element_with : ThingName → ElemId
element_with n = record { name = n }

-- the name of a board
unfoldable pub board_name_at : List ℕ → Field BoardId
board_name_at bytes = mapped board_with (name_at bytes)

-- the name of a stat
unfoldable pub stat_name_at : List ℕ → Field StatId
stat_name_at bytes = mapped stat_with (name_at bytes)

-- the name of a text
unfoldable pub text_name_at : List ℕ → Field TextId
text_name_at bytes = mapped text_with (name_at bytes)

-- the name of a byte of a text
unfoldable pub element_name_at : List ℕ → Field ElemId
element_name_at bytes = mapped element_with (name_at bytes)

-- a tag, and a name behind a tag of 1
unfoldable pub optional_at : {A : Type 0} → (List ℕ → Field A) → List ℕ → Field (Option A)
optional_at name_at bytes = do
  tag ← boolean_at bytes
  if tag.0 then mapped Some (name_at tag.1) else Ok (None, tag.1)

-- an element and a colour
unfoldable pub tile_at : List ℕ → Field Tile
tile_at bytes = do
  element ← byte_at bytes
  colour ← byte_at element.1
  Ok (record { element = element.0; colour = colour.0 }, colour.1)

-- four bytes
unfoldable pub rectangle_at : List ℕ → Field Rectangle
rectangle_at bytes = do
  left ← byte_at bytes
  top ← byte_at left.1
  right ← byte_at top.1
  bottom ← byte_at right.1
  Ok (record { left = left.0; top = top.0; right = right.0; bottom = bottom.0 }, bottom.1)

-- a tag, and a byte or a board
unfoldable pub third_parameter_at : List ℕ → Field ThirdParameter
third_parameter_at bytes = do
  tag ← boolean_at bytes
  if tag.0 then mapped third.Board (board_name_at tag.1) else mapped third.Byte (byte_at tag.1)

-- ---- registers, by their numbers

-- what is read of a register of a kind, if the number is of that kind
abbrev pub by_kind : {A C : Type 0} → Option A → (A → Field C) → Field C → Field C
by_kind None read other = other
by_kind (Some kind) read other = read kind

-- the key of a number below 7
abbrev pub key_of : ℕ → KeyColour
key_of n = if n == 0 then Blue else if n == 1 then Green else if n == 2 then Cyan else if n == 3 then Red else if n == 4 then Purple else if n == 5 then Yellow else White

-- the flag of a number below 10
abbrev pub flag_of : ℕ → FlagSlot
flag_of n =
    if n == 0 then First else if n == 1 then Second else if n == 2 then Third else if n == 3 then Fourth else if n == 4 then Fifth else if n == 5 then Sixth else if n == 6 then Seventh else
    if n == 7 then Eighth else if n == 8 then Ninth else Tenth

-- a register under its number, which tells how its value is read
abbrev pub register_at : {A : Type 0} → (ℕ → List ℕ → Field A) → List ℕ → Field A
register_at value_at bytes = do
  f ← byte_at bytes
  value_at f.0 f.1

-- the value of header field f
unfoldable pub header_value_at : ℕ → List ℕ → Field HeaderSetting
header_value_at f bytes =
    by_kind (header_number_of_field f) (λ k. mapped (header.Number k) (integer_at bytes)) (
    if nat_lt f 16 then mapped (header.Key (key_of (f - 9))) (boolean_at bytes) else
    if f == 16 then mapped header.Saved (boolean_at bytes) else
    if f == 17 then mapped header.CurrentBoard (board_name_at bytes) else
    if f == 18 then mapped header.WorldName (string_at bytes) else
    if nat_lt f 29 then mapped (header.Flag (flag_of (f - 19))) (string_at bytes) else Err (BadEdit Tag))

-- a register of a header, under its number
unfoldable pub header_setting_at : List ℕ → Field HeaderSetting
header_setting_at bytes = register_at header_value_at bytes

-- the value of board property f, of those that the version has
unfoldable pub board_value_at : ℕ → ℕ → List ℕ → Field BoardSetting
board_value_at version f bytes =
    by_kind (board_byte_of_field f) (λ k. mapped (board.Byte k) (byte_at bytes)) (
    by_kind (board_flag_of_field f) (λ k. mapped (board.Flag k) (boolean_at bytes)) (
    by_kind (side_of_field f) (λ k. mapped (board.Exit k) (optional_at board_name_at bytes)) (
    by_kind (board_text_of_field f) (λ k. mapped (board.Text k) (string_at bytes)) (
    if f == time_limit_property then mapped board.TimeLimit (integer_at bytes) else
    if (f == rank_property) && nat_le 2 version then mapped board.Rank (number_at 2 bytes) else Err (BadEdit Tag)))))

-- a register of a board, under its number
unfoldable pub board_setting_at : ℕ → List ℕ → Field BoardSetting
board_setting_at version bytes = register_at (board_value_at version) bytes

-- the value of stat field f
unfoldable pub stat_value_at : ℕ → List ℕ → Field StatSetting
stat_value_at f bytes =
    by_kind (stat_byte_of_field f) (λ k. mapped (stat.Byte k) (byte_at bytes)) (
    by_kind (stat_number_of_field f) (λ k. mapped (stat.Number k) (integer_at bytes)) (
    if f == 8 then mapped stat.P3 (third_parameter_at bytes) else
    if f == 9 then mapped stat.Follower (optional_at stat_name_at bytes) else
    if f == 10 then mapped stat.Leader (optional_at stat_name_at bytes) else
    if f == 13 then mapped stat.Text (optional_at text_name_at bytes) else Err (BadEdit Tag)))

-- a register of a stat, under its number
unfoldable pub stat_setting_at : List ℕ → Field StatSetting
stat_setting_at bytes = register_at stat_value_at bytes

-- what a new stat is given, from its bytes but the tile underneath, that tile, its numbers, and the rest
abbrev pub fields_of : List ℕ → Tile → List ℤ → ThirdParameter → Option TextId → StatFields
fields_of bytes under numbers p3 text =
    record { bytes = bytes ++ under.element ∷ under.colour ∷ []; numbers = numbers; p3 = p3; text = text }

-- what a new stat is given
unfoldable pub stat_fields_at : List ℕ → Field StatFields
stat_fields_at bytes = do
  x ← byte_at bytes
  y ← byte_at x.1
  step_x ← integer_at y.1
  step_y ← integer_at step_x.1
  cycle ← integer_at step_y.1
  p1 ← byte_at cycle.1
  p2 ← byte_at p1.1
  p3 ← third_parameter_at p2.1
  under ← tile_at p3.1
  text ← optional_at text_name_at under.1
  Ok (fields_of (x.0 ∷ y.0 ∷ p1.0 ∷ p2.0 ∷ []) under.0 (step_x.0 ∷ step_y.0 ∷ cycle.0 ∷ []) p3.0 text.0, text.1)

-- ---- ops

-- what is made of two fields, one after the other
abbrev pub pair_at : {A B : Type 0} → (A → B → Op) → (List ℕ → Field A) → (List ℕ → Field B) → List ℕ → Field Op
pair_at make first second bytes = do
  a ← first bytes
  b ← second a.1
  Ok (make a.0 b.0, b.1)

-- a board, and a register of it
unfoldable pub set_board_at : ℕ → List ℕ → Field Op
set_board_at version bytes = pair_at SetBoard board_name_at (board_setting_at version) bytes

-- a board, a rectangle and a tile
unfoldable pub set_cells_at : List ℕ → Field Op
set_cells_at bytes = do
  b ← board_name_at bytes
  r ← rectangle_at b.1
  t ← tile_at r.1
  Ok (SetCells b.0 r.0 t.0, t.1)

-- a board, and what a new stat is given
unfoldable pub stat_add_at : List ℕ → Field Op
stat_add_at bytes = pair_at StatAdd board_name_at stat_fields_at bytes

-- a stat, and a register of it
unfoldable pub set_stat_at : List ℕ → Field Op
set_stat_at bytes = pair_at SetStat stat_name_at stat_setting_at bytes

-- the inserted bytes are all that is left
unfoldable pub text_insert_at : List ℕ → Field Op
text_insert_at bytes = do
  t ← text_name_at bytes
  after ← optional_at element_name_at t.1
  Ok (TextInsert t.0 after.0 after.1, [])

-- a stamp, and the numbers of the first and the last byte
unfoldable pub range_at : List ℕ → Field ByteRange
range_at bytes = do
  made ← stamp_at bytes
  first ← number_at 4 made.1
  last ← number_at 4 first.1
  Ok (record { stamp = made.0; first = first.0; last = last.0 }, last.1)

-- a text, and a range of bytes
unfoldable pub text_delete_at : List ℕ → Field Op
text_delete_at bytes = pair_at TextDelete text_name_at range_at bytes

-- the op of a number, by the fields behind it
unfoldable pub op_at : ℕ → ℕ → List ℕ → Field Op
op_at version n bytes =
    if n == 1 then Ok (Genesis bytes, []) else
    if n == 2 then mapped SetHeader (header_setting_at bytes) else
    if n == 3 then mapped BoardAdd (string_at bytes) else
    if n == 4 then mapped BoardRemove (board_name_at bytes) else
    if n == 5 then set_board_at version bytes else
    if n == 6 then set_cells_at bytes else
    if n == 7 then stat_add_at bytes else
    if n == 8 then mapped StatRemove (stat_name_at bytes) else
    if n == 9 then set_stat_at bytes else
    if n == 10 then Ok (TextAdd, bytes) else
    if n == 11 then text_insert_at bytes else
    if n == 12 then text_delete_at bytes else Err (BadEdit BadOp)

-- ---- edits

-- an edit as it is spelt, whatever is wrong with it: a stamp, and an op of which nothing is left
unfoldable pub unchecked_edit_at : ℕ → List ℕ → Result Edit EditFileError
unchecked_edit_at version bytes = do
  made ← stamp_at bytes
  number ← byte_at made.1
  op ← op_at version number.0 number.1
  if length op.1 == 0 then Ok (record { stamp = made.0; op = op.0 }) else Err (BadEdit Long)

-- the op in the body of a record, whatever is wrong with its edit
unfoldable pub op_in : ℕ → List ℕ → Field Op
op_in version body = do
  made ← stamp_at body
  number ← byte_at made.1
  op_at version number.0 number.1

-- the op is there with all its fields and has a string, which is copied before what else is wrong with the edit is seen
abbrev pub SpellsString : ℕ → List ℕ → Type 0
SpellsString version body = reads_such has_string (op_in version body) ≡ true

-- the edit, if nothing is wrong with it
abbrev pub unless_faulty : Option Cause → Edit → Result Edit EditFileError
unless_faulty None e = Ok e
unless_faulty (Some c) e = Err (BadEdit c)

-- the edit that the body of a record of a version spells, if it fits
unfoldable pub edit_at : ℕ → List ℕ → Result Edit EditFileError
edit_at version bytes = do
  e ← unchecked_edit_at version bytes
  unless_faulty (fault e) e
