-- The values that a word may be.
use Rattle.std.specs.Prelude.{ℕ, zero, suc, ℤ, pos, negsuc, ◌+◌, ◌*◌, ◌-◌, nat_le, Bool, true, false, ◌&&◌, ◌==◌, if◌then◌else◌, List, [], ◌∷◌, length, map, codes, Option, Some, None, option_and_then, option_map}
use Rattle.std.specs.Str.{bytes_eq}
use Rattle.std.specs.Char.{to_ascii_lowercase}
use Rattle.zed_plaintext.specs.Digits.{digits_of}
use Rattle.zed_types.specs.declared.names.Name.{Name}
use Rattle.zed_types.specs.declared.stamp.Stamp.{Stamp}
use Rattle.zed_types.specs.declared.names.TextId.{TextId}
use Rattle.zed_types.specs.Elements.{row_of}
use Rattle.zed_set_words.specs.declared.wishes.BoardPlace.{BoardPlace}
use Rattle.zed_set_words.specs.declared.wishes.BoardPlace.TheVariants as board
use Rattle.zed_set_words.specs.declared.wishes.StatPlace.{StatPlace}
use Rattle.zed_set_words.specs.declared.wishes.StatPlace.TheVariants as stat

infixl 10 ◌>>=◌
-- what follows of a value, if there is one
abbrev pub ◌>>=◌ : {A B : Type 0} → Option A → (A → Option B) → Option B
o >>= f = option_and_then f o

-- a word: its bytes
abbrev pub Word : Type 0
Word = List ℕ

-- the first, or the second where there is none
abbrev pub or_else : {A : Type 0} → Option A → Option A → Option A
or_else None o = o
or_else (Some x) o = Some x

-- ---- numbers

-- whether a 0 (48) stands in front of something
abbrev pub has_idle_zero : Word → Bool
has_idle_zero [] = false
has_idle_zero (c ∷ []) = false
has_idle_zero (c ∷ d ∷ cs) = c == 48

-- the number that digits spell without an idle 0, if it is at most `most`
unfoldable pub number_of : ℕ → Word → Option ℕ
number_of most word = if has_idle_zero word then None else digits_of most word

-- a byte
abbrev pub byte_of : Word → Option ℕ
byte_of word = number_of 255 word

-- the number of a board or a stat, or a rank
abbrev pub short_of : Word → Option ℕ
short_of word = number_of 65535 word

-- a number below 0, by how far it is from 0
abbrev pub below_zero : Option ℕ → Option ℤ
below_zero None = None
below_zero (Some zero) = None
below_zero (Some (suc n)) = Some (negsuc n)

-- a number of two bytes, with `-` (45) before one below 0
unfoldable pub integer_of : Word → Option ℤ
integer_of [] = None
integer_of (c ∷ cs) = if c == 45 then below_zero (number_of 32768 cs) else option_map pos (number_of 32767 (c ∷ cs))

-- `yes` or `no`
abbrev pub flag_of : Word → Option Bool
flag_of word =
    if bytes_eq word (codes "yes") then Some true else (if bytes_eq word (codes "no") then Some false else None)

-- ---- elements, colours

-- a hexadecimal digit: 0 to 9 (48 to 57), or a to f (97 to 102)
abbrev pub hex_of : ℕ → Option ℕ
hex_of c = if nat_le 48 c && nat_le c 57 then Some (c - 48) else (if nat_le 97 c && nat_le c 102 then Some (c - 87) else None)

-- two hexadecimal digits
abbrev pub hex_pair_of : ℕ → ℕ → Option ℕ
hex_pair_of c d = do
  high ← hex_of c
  low ← hex_of d
  Some (high * 16 + low)

-- a colour: `0x` (48 120) and two digits, or a number
abbrev pub colour_of : Word → Option ℕ
colour_of (a ∷ b ∷ c ∷ d ∷ []) = if a == 48 && b == 120 then hex_pair_of c d else byte_of (a ∷ b ∷ c ∷ d ∷ [])
colour_of word = byte_of word

-- what stands before the first of these bytes, and what behind it
abbrev pub cut : ℕ → Word → Option (Word × Word)
cut c [] = None
cut c (x ∷ xs) = if x == c then Some ([], xs) else option_map (λ p. (x ∷ p.0, p.1)) (cut c xs)

-- in small letters
abbrev pub in_small : Word → Word
in_small word = map to_ascii_lowercase word

-- whether a word is that of an element, in letters of either size
unfoldable pub is_word_of : Word → ℕ → Bool
is_word_of word n = bytes_eq (in_small word) (in_small (row_of n).word)

-- the last of the elements below n that has this word
abbrev pub element_below : ℕ → Word → Option ℕ
element_below zero word = None
element_below (suc n) word = if is_word_of word n then Some n else element_below n word

-- the element of a word
unfoldable pub worded_of : Word → Option ℕ
worded_of word = if length word == 0 then None else element_below 54 word

-- an element by its word and its number, with `)` (41) behind it
abbrev pub numbered_of : Word → Word → Option ℕ
numbered_of word behind = do
  parts ← cut 41 behind
  n ← byte_of parts.0
  if is_word_of word n && bytes_eq parts.1 [] then Some n else None

-- an element: its number, its word, or its word and its number between `(` (40) and `)`
unfoldable pub element_of : Word → Option ℕ
element_of word = or_else (byte_of word) (or_else (worded_of word) (cut 40 word >>= λ parts. numbered_of parts.0 parts.1))

-- ---- things

-- the name of a thing: time, `.` (46), replica, `:` (58), index
unfoldable pub name_of : Word → Option Name
name_of word = do
  parts ← cut 46 word
  others ← cut 58 parts.1
  time ← number_of 281474976710655 parts.0
  replica ← number_of 65535 others.0
  index ← number_of 4294967295 others.1
  Some (record { stamp = record { time = time; replica = replica }; index = index })

-- a stamp: time, `.` (46), replica
unfoldable pub stamp_of : Word → Option Stamp
stamp_of word = do
  parts ← cut 46 word
  time ← number_of 281474976710655 parts.0
  replica ← number_of 65535 parts.1
  Some (record { time = time; replica = replica })

-- the time of a moment
abbrev pub time_of : Word → Option ℕ
time_of word = number_of 281474976710655 word

-- the first stamp of a moment: a stamp is itself, and a time begins with its replica 0
abbrev pub first_of : Word → Option Stamp
first_of word = or_else (stamp_of word) (option_map (λ t. record { time = t; replica = 0 }) (time_of word))

-- the last one: a time ends with its replica 65535
abbrev pub last_of : Word → Option Stamp
last_of word = or_else (stamp_of word) (option_map (λ t. record { time = t; replica = 65535 }) (time_of word))

-- a board: its name, or its number
abbrev pub board_of : Word → Option BoardPlace
board_of word = or_else (option_map (λ n. board.Named (record { name = n })) (name_of word)) (option_map board.Numbered (short_of word))

-- a stat beside another: its name, or its number on the board of a stat that is given by numbers
abbrev pub other_of : StatPlace → Word → Option StatPlace
other_of (stat.Numbered b s) word =
    or_else (option_map (λ n. stat.Named (record { name = n })) (name_of word)) (option_map (λ k. stat.Numbered b k) (short_of word))
other_of (stat.Named s) word = option_map (λ n. stat.Named (record { name = n })) (name_of word)

-- a text: its name
abbrev pub text_of : Word → Option TextId
text_of word = option_map (λ n. record { name = n }) (name_of word)

-- a thing that was read from a word, or `none`
abbrev pub unless_none : {A : Type 0} → Word → Option A → Option (Option A)
unless_none word thing = if bytes_eq word (codes "none") then Some None else option_map (λ x. Some x) thing
