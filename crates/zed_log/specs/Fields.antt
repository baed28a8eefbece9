-- The kinds of fields of a line.
use Rattle.std.specs.Prelude.{ℕ, ℤ, pos, negsuc, zero, suc, ◌+◌, ◌/◌, ◌%◌, ◌==◌, ◌&&◌, nat_lt, nat_le, Bool, true, false, if◌then◌else◌, List, [], ◌∷◌, ◌++◌, map, codes, Option, Some, None}
use Rattle.std.specs.Char.{to_ascii_lowercase}
use Rattle.std.specs.Fmt.{digit_glyph}
use Rattle.std.specs.Int.Digits.{digits_of}
use Rattle.std.specs.List.{flat_map}
use Rattle.zed_types.specs.Elements.{row_of}
use Rattle.zed_types.specs.declared.stamp.Stamp.{Stamp}
use Rattle.zed_types.specs.declared.names.Name.{Name as ThingName}
use Rattle.zed_types.specs.declared.names.BoardId.{BoardId}
use Rattle.zed_types.specs.declared.names.StatId.{StatId}
use Rattle.zed_types.specs.declared.names.TextId.{TextId}
use Rattle.zed_types.specs.declared.names.ElemId.{ElemId}
use Rattle.zed_types.specs.declared.tile.Tile.{Tile}
use Rattle.zed_types.specs.declared.tile.Rectangle.{Rectangle}
use Rattle.zed_types.specs.declared.text.ByteRange.{ByteRange}
use Rattle.zed_types.specs.declared.stat_field.ThirdParameter.{ThirdParameter}
use Rattle.zed_types.specs.declared.stat_field.ThirdParameter.TheVariants as third

-- a number in decimal digits
unfoldable pub number : ℕ → List ℕ
number zero = 48 ∷ []
number (suc n) = map (λ d. 48 + d) (digits_of 10 (suc n))

-- a number with a sign: `-` (45) before one below 0
unfoldable pub integer : ℤ → List ℕ
integer (pos n) = number n
integer (negsuc n) = 45 ∷ number (suc n)

-- two hexadecimal digits
unfoldable pub hex : ℕ → List ℕ
hex b = digit_glyph false (b / 16) ∷ digit_glyph false (b % 16) ∷ []

-- a colour: `0x` and two hexadecimal digits
abbrev pub colour : ℕ → List ℕ
colour c = 48 ∷ 120 ∷ hex c

-- a byte of a string: `\"` and `\\`, `\r` for the end of a line (13), what else doesn't print as `\x` and two digits
unfoldable pub escape : ℕ → List ℕ
escape b =
    if b == 34 then 92 ∷ 34 ∷ []
    else (if b == 92 then 92 ∷ 92 ∷ [] else (if b == 13 then 92 ∷ 114 ∷ [] else (if nat_le 32 b && nat_lt b 127 then b ∷ [] else 92 ∷ 120 ∷ hex b)))

-- a string between quotes
unfoldable pub quoted : List ℕ → List ℕ
quoted s = 34 ∷ flat_map escape s ++ 34 ∷ []

-- `yes` or `no`
abbrev pub boolean : Bool → List ℕ
boolean true = codes "yes"
boolean false = codes "no"

-- time, `.` (46), replica
unfoldable pub stamp : Stamp → List ℕ
stamp s = number s.time ++ 46 ∷ number s.replica

-- the stamp of a thing, `:` (58), its index
unfoldable pub name : ThingName → List ℕ
name n = stamp n.stamp ++ 58 ∷ number n.index

-- the name of a board
abbrev pub board_name : BoardId → List ℕ
board_name b = name b.name

-- the name of a stat
abbrev pub stat_name : StatId → List ℕ
stat_name s = name s.name

-- the name of a text
abbrev pub text_name : TextId → List ℕ
text_name t = name t.name

-- the name of a byte of a text
abbrev pub element_name : ElemId → List ℕ
element_name a = name a.name

-- a name, or `none`
abbrev pub optional : {A : Type 0} → (A → List ℕ) → Option A → List ℕ
optional spell None = codes "none"
optional spell (Some x) = spell x

-- the word of an element in small letters
abbrev pub element_word : ℕ → List ℕ
element_word n = map to_ascii_lowercase (row_of n).word

-- an element: its word, which may be empty, and its number between `(` (40) and `)` (41)
unfoldable pub element : ℕ → List ℕ
element n = element_word n ++ 40 ∷ number n ++ 41 ∷ []

-- an element and a colour
unfoldable pub tile : Tile → List ℕ
tile t = element t.element ++ 32 ∷ colour t.colour

-- a place: column and row between brackets, with `,` (44) between them
unfoldable pub place : ℕ → ℕ → List ℕ
place x y = 40 ∷ number x ++ 44 ∷ number y ++ 41 ∷ []

-- the upper left place, `-` (45), the lower right place
unfoldable pub rectangle : Rectangle → List ℕ
rectangle r = place r.left r.top ++ 45 ∷ place r.right r.bottom

-- the stamp of an insertion, `:` (58), the first of its bytes, `-` (45), the last
unfoldable pub range : ByteRange → List ℕ
range r = stamp r.stamp ++ 58 ∷ number r.first ++ 45 ∷ number r.last

-- a byte, or `board` and its name
unfoldable pub third_parameter : ThirdParameter → List ℕ
third_parameter (third.Byte n) = number n
third_parameter (third.Board b) = codes "board " ++ board_name b
