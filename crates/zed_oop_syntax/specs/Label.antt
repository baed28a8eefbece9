-- Labels and names in programs.
use Rattle.std.specs.Prelude.{ℕ, zero, suc, ◌+◌, ◌-◌, Bool, true, false, not, ◌&&◌, ◌||◌, ◌==◌, nat_le, if◌then◌else◌, List, length, map, slice_get, slice_range, Option, Some, None, codes}
use Rattle.std.specs.Char.{is_ascii_alphabetic, to_ascii_lowercase}
use Rattle.std.specs.Str.{bytes_eq}

-- without regard to case
unfoldable pub one_word : List ℕ → List ℕ → Bool
one_word a b = bytes_eq (map to_ascii_lowercase a) (map to_ascii_lowercase b)

-- whether there is a byte, and it is b
abbrev pub is_this : ℕ → Option ℕ → Bool
is_this b None = false
is_this b (Some c) = c == b

-- whether the byte b stands at a place
abbrev pub byte_is : List ℕ → ℕ → ℕ → Bool
byte_is p at b = is_this b (slice_get p at)

-- no letter and no `_` follows
abbrev pub ends_word : Option ℕ → Bool
ends_word None = true
ends_word (Some b) = not (is_ascii_alphabetic b || b == 95)

-- a label's word stands at a place, and ends there
unfoldable pub follows : List ℕ → ℕ → List ℕ → Bool
follows p at l =
    (nat_le at (length p) && nat_le (length l) (length p - at))
    && (one_word (slice_range p at (at + length l)) l && ends_word (slice_get p (at + length l)))

-- behind a byte 13 stand this mark and a label's word
unfoldable pub label_at : ℕ → List ℕ → List ℕ → ℕ → Bool
label_at mark p l at = (not (at == 0) && byte_is p (at - 1) 13 && byte_is p at mark) && follows p (at + 1) l

-- the first of two, where there is one, else the second
abbrev pub or_else : Option ℕ → Option ℕ → Option ℕ
or_else None o = o
or_else (Some n) o = Some n

-- the least number below n that passes a test, if one does
abbrev pub least : (ℕ → Bool) → ℕ → Option ℕ
least test zero = None
least test (suc n) = or_else (least test n) (if test n then Some n else None)

-- the place of the first label of this word; `:` is 58
unfoldable pub first_label : List ℕ → List ℕ → Option ℕ
first_label p l = least (label_at 58 p l) (length p)

-- whether a label is RESTART, which leads to the beginning of a program
abbrev pub is_restart : List ℕ → Bool
is_restart l = bytes_eq l (codes "RESTART")

-- where a message to a label leads
abbrev pub label_place : List ℕ → List ℕ → Option ℕ
label_place p l = if is_restart l then Some 0 else first_label p l
