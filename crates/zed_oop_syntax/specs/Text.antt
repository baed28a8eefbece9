-- Words, values and lines in the bytes of a program.
use Rattle.std.specs.Prelude.{ℕ, ◌+◌, ◌-◌, ◌*◌, ◌<◌, min, Bool, ◌||◌, not, ◌==◌, nat_lt, if◌then◌else◌, List, [], ◌∷◌, length, map, drop, slice_get, slice_range, Option, Some, None}
use Rattle.std.specs.List.{prefix_len}
use Rattle.std.specs.Str.{bytes_eq}
use Rattle.std.specs.Char.{is_ascii_digit, is_ascii_alphanumeric, to_ascii_uppercase}
use Rattle.zed_oop_syntax.specs.declared.text.Class.{Class}
use Rattle.zed_oop_syntax.specs.declared.text.Class.TheVariants.{Space, Digit, Word, Line}

-- whether a byte is of a class: a space, a digit, a byte of words, or any but the end of a line
abbrev pub is_of : Class → ℕ → Bool
is_of Space b = b == 32
is_of Digit b = is_ascii_digit b
is_of Word b = is_ascii_alphanumeric b || b == 58 || b == 95
is_of Line b = not (b == 13)

-- where the longest run of a class ends that stands from a place on
unfoldable pub run_end : Class → List ℕ → ℕ → ℕ
run_end c p at = at + prefix_len (is_of c) (drop at p)

-- a word stands after spaces
abbrev pub word_start : List ℕ → ℕ → ℕ
word_start p at = run_end Space p at

-- none begins with a digit
abbrev pub end_by_first : List ℕ → ℕ → Option ℕ → ℕ
end_by_first p from None = from
end_by_first p from (Some b) = if is_ascii_digit b then from else run_end Word p from

-- where the word behind the spaces at a place ends, be it empty
unfoldable pub word_end : List ℕ → ℕ → ℕ
word_end p at = end_by_first p (word_start p at) (slice_get p (word_start p at))

-- bytes with each letter in upper case
abbrev pub upper : List ℕ → List ℕ
upper = map to_ascii_uppercase

-- the word at a place, in upper case
unfoldable pub word_at : List ℕ → ℕ → List ℕ
word_at p at = upper (slice_range p (word_start p at) (word_end p at))

-- a word stands at a place, and not an empty one
abbrev pub HasWord : List ℕ → ℕ → Type 0
HasWord p at = 0 < length (word_at p at)

-- what a number spells with digits behind it
abbrev pub number : ℕ → List ℕ → ℕ
number n [] = n
number n (d ∷ ds) = number (n * 10 + (d - 48)) ds

-- a number with a digit more; over 32,767 it doesn't matter which
abbrev pub with_digit : ℕ → ℕ → ℕ
with_digit n d = if nat_lt 3276 n then 32767 else n * 10 + (d - 48)

-- a value stands after spaces
abbrev pub value_start : List ℕ → ℕ → ℕ
value_start p at = run_end Space p at

-- where the digits of the value at a place end
unfoldable pub value_end : List ℕ → ℕ → ℕ
value_end p at = run_end Digit p (value_start p at)

-- the value at a place: 0 without a digit, at most 32,767
unfoldable pub value_at : List ℕ → ℕ → ℕ
value_at p at = min (number 0 (slice_range p (value_start p at) (value_end p at))) 32767

-- where the line at a place ends: at its byte 13, or at the end of the program
unfoldable pub line_end : List ℕ → ℕ → ℕ
line_end p at = run_end Line p at

-- where the line after the one at a place begins; where there is none, the end of the program
unfoldable pub line_after : List ℕ → ℕ → ℕ
line_after p at = if nat_lt (line_end p at) (length p) then line_end p at + 1 else line_end p at

-- what a table of words says of a word, if it is there; of rows with one word the first counts
abbrev pub meaning_in : {X : Type 0} → List (List ℕ × X) → List ℕ → Option X
meaning_in [] w = None
meaning_in (row ∷ rows) w = if bytes_eq w row.0 then Some row.1 else meaning_in rows w
