-- Numbers as words of decimal digits.
use Rattle.std.specs.Prelude.{ℕ, nat_le, Bool, ◌&&◌, if◌then◌else◌, List, length, Option, Some, None}
use Rattle.std.specs.Char.{is_ascii_digit}
use Rattle.std.specs.List.{list_all}
use Rattle.std.specs.Str.Parse.{digits_value}

-- one digit or more, and nothing else
abbrev pub is_number : List ℕ → Bool
is_number word = nat_le 1 (length word) && list_all is_ascii_digit word

-- the number that digits spell, if it is at most `most`
abbrev pub digits_of : ℕ → List ℕ → Option ℕ
digits_of most word = if is_number word && nat_le (digits_value 10 word) most then Some (digits_value 10 word) else None
