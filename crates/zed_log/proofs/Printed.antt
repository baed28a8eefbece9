-- No control byte stands in a line before its end.
use Rattle.std.proofs.Common.{◌≡◌, ℕ, ℤ, pos, negsuc, suc, ◌+◌, Bool, true, false, cond, List, [], ◌∷◌, ◌++◌, map, length, get_or, Option, Some, None, codes, refl, ap, ◌∙◌, ◌/◌, ◌%◌, arith, eqb, nat_le, nat_lt, ◌&&◌}
use Rattle.std.specs.Char.{to_ascii_lowercase}
use Rattle.std.specs.List.{flat_map, list_all}
use Rattle.std.specs.Fmt.{digit_glyph}
use Rattle.std.proofs.lemmas.Bool.Decides.{nat_tests}
use Rattle.zed_types.specs.Elements.{Row, row, rows}
use Rattle.zed_types.specs.declared.kind.Look.TheVariants.{Character}
use Rattle.zed_types.specs.declared.kind.Push.TheVariants.{Not}
use Rattle.zed_types.specs.declared.stamp.Stamp.{Stamp}
use Rattle.zed_types.specs.declared.names.Name.{Name as ThingName}
use Rattle.zed_types.specs.declared.names.ElemId.{ElemId}
use Rattle.zed_types.specs.declared.tile.Tile.{Tile}
use Rattle.zed_types.specs.declared.tile.Rectangle.{Rectangle}
use Rattle.zed_types.specs.declared.text.ByteRange.{ByteRange}
use Rattle.zed_types.specs.declared.header.HeaderNumber.{HeaderNumber}
use Rattle.zed_types.specs.declared.header.HeaderNumber.TheVariants.{Ammo, Gems, Health, Torches, TorchTicks, EnergizerTicks, Score, TimePassed, Hundredths}
use Rattle.zed_types.specs.declared.header.KeyColour.{KeyColour}
use Rattle.zed_types.specs.declared.header.KeyColour.TheVariants.{Blue, Green, Cyan, Red, Purple, Yellow, White}
use Rattle.zed_types.specs.declared.header.HeaderSetting.{HeaderSetting}
use Rattle.zed_types.specs.declared.header.HeaderSetting.TheVariants as header
use Rattle.zed_types.specs.declared.property.Side.{Side}
use Rattle.zed_types.specs.declared.property.Side.TheVariants.{North, South, West, East}
use Rattle.zed_types.specs.declared.property.BoardByte.{BoardByte}
use Rattle.zed_types.specs.declared.property.BoardByte.TheVariants.{MaxShots, StartX, StartY}
use Rattle.zed_types.specs.declared.property.BoardFlag.{BoardFlag}
use Rattle.zed_types.specs.declared.property.BoardFlag.TheVariants.{Dark, ReEnter}
use Rattle.zed_types.specs.declared.property.BoardText.{BoardText}
use Rattle.zed_types.specs.declared.property.BoardText.TheVariants.{Name, Message}
use Rattle.zed_types.specs.declared.property.BoardSetting.{BoardSetting}
use Rattle.zed_types.specs.declared.property.BoardSetting.TheVariants as board
use Rattle.zed_types.specs.declared.stat_field.StatByte.{StatByte}
use Rattle.zed_types.specs.declared.stat_field.StatByte.TheVariants.{X, Y, P1, P2, UnderElement, UnderColour}
use Rattle.zed_types.specs.declared.stat_field.StatNumber.{StatNumber}
use Rattle.zed_types.specs.declared.stat_field.StatNumber.TheVariants.{StepX, StepY, Cycle, Position}
use Rattle.zed_types.specs.declared.stat_field.StatSetting.{StatSetting}
use Rattle.zed_types.specs.declared.stat_field.StatSetting.TheVariants as stat
use Rattle.zed_types.specs.declared.stat_field.StatFields.{StatFields}
use Rattle.zed_types.specs.declared.stat_field.ThirdParameter.{ThirdParameter}
use Rattle.zed_types.specs.declared.stat_field.ThirdParameter.TheVariants as third
use Rattle.zed_types.specs.Header.{flag_index}
use Rattle.zed_op.specs.declared.op.Op.{Op}
use Rattle.zed_op.specs.declared.op.Op.TheVariants.{Genesis, SetHeader, BoardAdd, BoardRemove, SetBoard, SetCells, StatAdd, StatRemove, SetStat, TextAdd, TextInsert, TextDelete}
use Rattle.zed_op.specs.declared.op.Edit.{Edit}
use Rattle.zed_log.specs.Fields.{number, integer, hex, colour, escape, quoted, boolean, stamp, name, optional, element_word, element, tile, place, rectangle, range, third_parameter}
use Rattle.zed_log.specs.Words.{header_number_word, key_word, side_word, board_byte_word, board_flag_word, board_text_word, stat_byte_word, stat_number_word}
use Rattle.zed_log.specs.declared.length.Length.{Length}
use Rattle.zed_log.specs.declared.length.Length.TheVariants.{Short, Full}
use Rattle.zed_log.specs.Line.{header_setting, board_setting, stat_byte, stat_setting, stat_bytes, stat_numbers, stat_fields, after_text, op_at, op_text, short_op, text_at}
use Rattle.zed_log.specs.Laws.{IsOneLine}
use Rattle.zed_log.proofs.Codes.{is_digit}
use Rattle.zed_log.proofs.Numerals.{Each, number_digits}
use Rattle.zed_log.proofs.Elements.{at_row}
use Rattle.zed_log.proofs.Strings.{escape_with}

abbrev pub plain : List ℕ → Bool
plain text = list_all (λ c. nat_le 32 c) text

-- two texts one after the other
pub both : (a b : List ℕ) → plain a ≡ true → plain b ≡ true → plain (a ++ b) ≡ true
both [] b p q = q
both (c ∷ a) b p q = begun (nat_le 32 c) (plain a) (plain (a ++ b)) p (λ k. both a b k q)
  where
    begun : (t u v : Bool) → (t && u) ≡ true → (u ≡ true → v ≡ true) → (t && v) ≡ true
    begun true u v h k = k h
    begun false u v h k = absurd cc

-- ---- numbers and strings

digit_is : (c : ℕ) → is_digit c ≡ true → nat_le 32 c ≡ true
digit_is c h = grind (arith, nat_tests)

then : (c : ℕ) (t : List ℕ) → nat_le 32 c ≡ true → plain t ≡ true → plain (c ∷ t) ≡ true
then c t h k = ap (λ (b : Bool). b && plain t) h ∙ k

digits_are : (ds : List ℕ) → Each is_digit ds → plain ds ≡ true
digits_are [] h = refl
digits_are (d ∷ ds) h = then d ds (digit_is d h.0) (digits_are ds h.1)

pub number_is : (n : ℕ) → plain (number n) ≡ true
number_is n = digits_are (number n) (number_digits n)

pub integer_is : (z : ℤ) → plain (integer z) ≡ true
unfolding integer
integer_is (pos n) = number_is n
integer_is (negsuc n) = number_is (suc n)

low_glyph : (d : ℕ) → nat_le 32 (48 + d) ≡ true
low_glyph d = grind (arith, nat_tests)

high_glyph : (d : ℕ) → nat_le 32 (87 + d) ≡ true
high_glyph d = grind (arith, nat_tests)

glyph_with : (t : Bool) (d : ℕ) → nat_le 32 (cond t (48 + d) (87 + d)) ≡ true
glyph_with true d = low_glyph d
glyph_with false d = high_glyph d

hex_is : (b : ℕ) → plain (hex b) ≡ true
unfolding hex
hex_is b =
    then (digit_glyph false (b / 16)) (digit_glyph false (b % 16) ∷ []) (glyph_with (nat_lt (b / 16) 10) (b / 16)) (then (digit_glyph false (b % 16)) [] (glyph_with (nat_lt (b % 16) 10) (b % 16)) refl)

passed : (a b : Bool) → true ≡ (a && b) → a ≡ true
passed true b h = refl
passed false b h = absurd cc

escape_is_with : (p q r s : Bool) (b : ℕ) → s ≡ (nat_le 32 b && nat_lt b 127) → plain (escape_with p q r s b) ≡ true
escape_is_with true q r s b h = refl
escape_is_with false true r s b h = refl
escape_is_with false false true s b h = refl
escape_is_with false false false true b h = then b [] (passed (nat_le 32 b) (nat_lt b 127) h) refl
escape_is_with false false false false b h = hex_is b

escape_is : (b : ℕ) → plain (escape b) ≡ true
unfolding escape
escape_is b = escape_is_with (eqb b 34) (eqb b 92) (eqb b 13) (nat_le 32 b && nat_lt b 127) b refl

escapes_are : (s : List ℕ) → plain (flat_map escape s) ≡ true
escapes_are [] = refl
escapes_are (b ∷ s) = both (escape b) (flat_map escape s) (escape_is b) (escapes_are s)

pub quoted_is : (s : List ℕ) → plain (quoted s) ≡ true
unfolding quoted
quoted_is s = both (flat_map escape s) (34 ∷ []) (escapes_are s) refl

boolean_is : (b : Bool) → plain (boolean b) ≡ true
boolean_is true = refl
boolean_is false = refl

-- ---- names, places and tiles

stamp_is : (s : Stamp) → plain (stamp s) ≡ true
unfolding stamp
stamp_is s = both (number s.time) (46 ∷ number s.replica) (number_is s.time) (number_is s.replica)

name_is : (n : ThingName) → plain (name n) ≡ true
unfolding name
name_is n = both (stamp n.stamp) (58 ∷ number n.index) (stamp_is n.stamp) (number_is n.index)

optional_is : {A : Type 0} (f : A → List ℕ) (o : Option A) → ((a : A) → plain (f a) ≡ true) → plain (optional f o) ≡ true
optional_is f None h = refl
optional_is f (Some a) h = h a

word_is : (n : ℕ) → plain (element_word n) ≡ true
word_is n =
    at_row (λ (r : Row). plain (map to_ascii_lowercase r.word)) rows n (row [] (Character 63) false Not false) refl refl

pub element_is : (n : ℕ) → plain (element n) ≡ true
unfolding element
element_is n =
    both (element_word n ++ 40 ∷ number n) (41 ∷ []) (both (element_word n) (40 ∷ number n) (word_is n) (number_is n)) refl

tile_is : (t : Tile) → plain (tile t) ≡ true
unfolding tile
tile_is t = both (element t.element) (32 ∷ colour t.colour) (element_is t.element) (hex_is t.colour)

pub place_is : (x y : ℕ) → plain (place x y) ≡ true
unfolding place
place_is x y =
    both (number x ++ 44 ∷ number y) (41 ∷ []) (both (number x) (44 ∷ number y) (number_is x) (number_is y)) refl

rectangle_is : (r : Rectangle) → plain (rectangle r) ≡ true
unfolding rectangle
rectangle_is r =
    both (place r.left r.top) (45 ∷ place r.right r.bottom) (place_is r.left r.top) (place_is r.right r.bottom)

range_is : (r : ByteRange) → plain (range r) ≡ true
unfolding range
range_is r =
    both (stamp r.stamp ++ 58 ∷ number r.first) (45 ∷ number r.last) (both (stamp r.stamp) (58 ∷ number r.first) (stamp_is r.stamp) (number_is r.first)) (number_is r.last)

third_is : (t : ThirdParameter) → plain (third_parameter t) ≡ true
unfolding third_parameter
third_is (third.Byte n) = number_is n
third_is (third.Board b) = name_is b.name

-- ---- registers

header_word_is : (k : HeaderNumber) → plain (header_number_word k) ≡ true
header_word_is Ammo = refl
header_word_is Gems = refl
header_word_is Health = refl
header_word_is Torches = refl
header_word_is TorchTicks = refl
header_word_is EnergizerTicks = refl
header_word_is Score = refl
header_word_is TimePassed = refl
header_word_is Hundredths = refl

key_word_is : (k : KeyColour) → plain (key_word k) ≡ true
key_word_is Blue = refl
key_word_is Green = refl
key_word_is Cyan = refl
key_word_is Red = refl
key_word_is Purple = refl
key_word_is Yellow = refl
key_word_is White = refl

side_word_is : (k : Side) → plain (side_word k) ≡ true
side_word_is North = refl
side_word_is South = refl
side_word_is West = refl
side_word_is East = refl

board_byte_word_is : (k : BoardByte) → plain (board_byte_word k) ≡ true
board_byte_word_is MaxShots = refl
board_byte_word_is StartX = refl
board_byte_word_is StartY = refl

board_flag_word_is : (k : BoardFlag) → plain (board_flag_word k) ≡ true
board_flag_word_is Dark = refl
board_flag_word_is ReEnter = refl

board_text_word_is : (k : BoardText) → plain (board_text_word k) ≡ true
board_text_word_is Name = refl
board_text_word_is Message = refl

stat_byte_word_is : (k : StatByte) → plain (stat_byte_word k) ≡ true
stat_byte_word_is X = refl
stat_byte_word_is Y = refl
stat_byte_word_is P1 = refl
stat_byte_word_is P2 = refl
stat_byte_word_is UnderElement = refl
stat_byte_word_is UnderColour = refl

stat_number_word_is : (k : StatNumber) → plain (stat_number_word k) ≡ true
stat_number_word_is StepX = refl
stat_number_word_is StepY = refl
stat_number_word_is Cycle = refl
stat_number_word_is Position = refl

header_is : (s : HeaderSetting) → plain (header_setting s) ≡ true
header_is (header.Number f n) = both (header_number_word f) (integer n) (header_word_is f) (integer_is n)
header_is (header.Key k b) = both (key_word k) (boolean b) (key_word_is k) (boolean_is b)
header_is (header.Saved b) = boolean_is b
header_is (header.CurrentBoard b) = name_is b.name
header_is (header.WorldName s) = quoted_is s
header_is (header.Flag k s) = both (number (1 + flag_index k)) (32 ∷ quoted s) (number_is (1 + flag_index k)) (quoted_is s)

board_is : (s : BoardSetting) → plain (board_setting s) ≡ true
board_is (board.Byte f n) = both (board_byte_word f) (number n) (board_byte_word_is f) (number_is n)
board_is (board.Flag f b) = both (board_flag_word f) (boolean b) (board_flag_word_is f) (boolean_is b)
board_is (board.TimeLimit n) = integer_is n
board_is (board.Exit d b) =
    both (side_word d) (optional (λ x. name x.name) b) (side_word_is d) (optional_is (λ x. name x.name) b (λ x. name_is x.name))
board_is (board.Text f s) = both (board_text_word f) (quoted s) (board_text_word_is f) (quoted_is s)
board_is (board.Rank n) = number_is n

value_is : (f : StatByte) (n : ℕ) → plain (stat_byte f n) ≡ true
value_is X n = number_is n
value_is Y n = number_is n
value_is P1 n = number_is n
value_is P2 n = number_is n
value_is UnderElement n = element_is n
value_is UnderColour n = hex_is n

stat_is : (s : StatSetting) → plain (stat_setting s) ≡ true
stat_is (stat.Byte f n) = both (stat_byte_word f) (stat_byte f n) (stat_byte_word_is f) (value_is f n)
stat_is (stat.Number f n) = both (stat_number_word f) (integer n) (stat_number_word_is f) (integer_is n)
stat_is (stat.P3 t) = third_is t
stat_is (stat.Follower s) = optional_is (λ x. name x.name) s (λ x. name_is x.name)
stat_is (stat.Leader s) = optional_is (λ x. name x.name) s (λ x. name_is x.name)
stat_is (stat.Text t) = optional_is (λ x. name x.name) t (λ x. name_is x.name)

-- ---- new stats

stat_bytes_are : (b : List ℕ) → plain (stat_bytes b) ≡ true
unfolding stat_bytes
stat_bytes_are b =
    let p0 = place (get_or b 0 0) (get_or b 1 0) in
    let p1 = p0 ++ codes " p1 " in
    let p2 = p1 ++ number (get_or b 2 0) in
    let p3 = p2 ++ codes " p2 " in
    let p4 = p3 ++ number (get_or b 3 0) in
    let p5 = p4 ++ codes " under " in
    let p6 = p5 ++ element (get_or b 4 0) in
    let q1 = both p0 (codes " p1 ") (place_is (get_or b 0 0) (get_or b 1 0)) refl in
    let q2 = both p1 (number (get_or b 2 0)) q1 (number_is (get_or b 2 0)) in
    let q3 = both p2 (codes " p2 ") q2 refl in
    let q4 = both p3 (number (get_or b 3 0)) q3 (number_is (get_or b 3 0)) in
    let q5 = both p4 (codes " under ") q4 refl in
    let q6 = both p5 (element (get_or b 4 0)) q5 (element_is (get_or b 4 0)) in
    both p6 (32 ∷ colour (get_or b 5 0)) q6 (hex_is (get_or b 5 0))

stat_numbers_are : (n : List ℤ) → plain (stat_numbers n) ≡ true
unfolding stat_numbers
stat_numbers_are n =
    let p1 = integer (get_or n 0 (pos 0)) ++ 44 ∷ integer (get_or n 1 (pos 0)) in
    let q1 = both (integer (get_or n 0 (pos 0))) (44 ∷ integer (get_or n 1 (pos 0))) (integer_is (get_or n 0 (pos 0))) (integer_is (get_or n 1 (pos 0))) in
    let q2 = both p1 (codes " cycle ") q1 refl in
    both (p1 ++ codes " cycle ") (integer (get_or n 2 (pos 0))) q2 (integer_is (get_or n 2 (pos 0)))

stat_fields_are : (f : StatFields) → plain (stat_fields f) ≡ true
unfolding stat_fields
stat_fields_are f =
    let p1 = stat_bytes f.bytes ++ 32 ∷ stat_numbers f.numbers in
    let q1 = both (stat_bytes f.bytes) (32 ∷ stat_numbers f.numbers) (stat_bytes_are f.bytes) (stat_numbers_are f.numbers) in
    let p2 = p1 ++ codes " p3 " in
    let q2 = both p1 (codes " p3 ") q1 refl in
    let p3 = p2 ++ third_parameter f.p3 in
    let q3 = both p2 (third_parameter f.p3) q2 (third_is f.p3) in
    let q4 = both p3 (codes " text ") q3 refl in
    both (p3 ++ codes " text ") (optional (λ x. name x.name) f.text) q4 (optional_is (λ x. name x.name) f.text (λ x. name_is x.name))

-- ---- edits

after_is : (o : Option ElemId) → plain (after_text o) ≡ true
after_is None = refl
after_is (Some a) = name_is a.name

op_is : (op : Op) → plain (op_text op) ≡ true
op_is (Genesis s) =
    both (number (length s) ++ codes " bytes ") (quoted s) (both (number (length s)) (codes " bytes ") (number_is (length s)) refl) (quoted_is s)
op_is (SetHeader s) = header_is s
op_is (BoardAdd s) = quoted_is s
op_is (BoardRemove b) = name_is b.name
op_is (SetBoard b s) = both (name b.name) (32 ∷ board_setting s) (name_is b.name) (board_is s)
op_is (SetCells b r t) =
    both (name b.name ++ 32 ∷ rectangle r) (32 ∷ tile t) (both (name b.name) (32 ∷ rectangle r) (name_is b.name) (rectangle_is r)) (tile_is t)
op_is (StatAdd b f) = both (name b.name) (32 ∷ stat_fields f) (name_is b.name) (stat_fields_are f)
op_is (StatRemove s) = name_is s.name
op_is (SetStat s x) = both (name s.name) (32 ∷ stat_setting x) (name_is s.name) (stat_is x)
op_is TextAdd = refl
op_is (TextInsert t a s) =
    both (name t.name ++ 32 ∷ after_text a) (32 ∷ quoted s) (both (name t.name) (32 ∷ after_text a) (name_is t.name) (after_is a)) (quoted_is s)
op_is (TextDelete t r) =
    both (name t.name ++ codes " bytes ") (range r) (both (name t.name) (codes " bytes ") (name_is t.name) refl) (range_is r)

short_is : (op : Op) → plain (short_op op) ≡ true
short_is (Genesis s) = both (number (length s)) (codes " bytes ..") (number_is (length s)) refl
short_is op = op_is op

at_is : (l : Length) (op : Op) → plain (op_at l op) ≡ true
at_is Short op = short_is op
at_is Full op = op_is op

abbrev front : Length → Edit → List ℕ
front l e = number e.stamp.time ++ 32 ∷ number e.stamp.replica ++ (codes "  " ++ op_at l e.op)

front_is : (l : Length) (e : Edit) → plain (front l e) ≡ true
front_is l e =
    both (number e.stamp.time ++ 32 ∷ number e.stamp.replica) (codes "  " ++ op_at l e.op) (both (number e.stamp.time) (32 ∷ number e.stamp.replica) (number_is e.stamp.time) (number_is e.stamp.replica)) (at_is l e.op)

-- the line of each edit is one line
pub one_line : (l : Length) (e : Edit) → IsOneLine (text_at l e)
unfolding text_at
one_line l e = (front l e, refl, front_is l e)
