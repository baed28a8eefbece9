-- A text as a program.
use Rattle.std.specs.Prelude.{ℕ, ◌==◌, ◌&&◌, if◌then◌else◌, List, [], ◌∷◌, ◌++◌, take_while, Result, Ok, Err}
use Rattle.std.specs.List.{filter_map, list_all}
use Rattle.std.specs.Str.{chars}
use Rattle.std.specs.Str.Lossy.{utf8_lossy}
use Rattle.zed_plaintext.specs.declared.error.BadText.{BadText}
use Rattle.zed_plaintext.specs.Characters.{byte_of, is_known}
use Rattle.zed_plaintext.specs.Place.{place_behind}

-- characters without a byte order mark (U+FEFF) in front
abbrev pub unmarked : List ℕ → List ℕ
unmarked [] = []
unmarked (c ∷ cs) = if c == 65279 then cs else c ∷ cs

-- what a character comes to behind this one: a carriage return (13) ends a line, and the line feed (10) right behind it ends no other
abbrev pub fed_one : ℕ → ℕ → List ℕ
fed_one before c = if c == 13 then 10 ∷ [] else if (before == 13) && (c == 10) then [] else c ∷ []

-- characters behind this one, with a line feed for each end of a line
abbrev pub fed_behind : ℕ → List ℕ → List ℕ
fed_behind before [] = []
fed_behind before (c ∷ cs) = fed_one before c ++ fed_behind c cs

-- characters with a line feed for each end of a line
abbrev pub line_fed : List ℕ → List ℕ
line_fed cs = fed_behind 0 cs

-- the program that has just these characters, or the place of the first that no program has
unfoldable pub spelled : List ℕ → Result (List ℕ) BadText
spelled cs = if list_all is_known cs then Ok (filter_map byte_of cs) else Err (place_behind (take_while is_known cs))

-- the program that a text spells, or its first bad place; U+FFFD, which no program has, is in the place of bytes that are no character
unfoldable pub program_in : List ℕ → Result (List ℕ) BadText
program_in text = spelled (line_fed (unmarked (chars (utf8_lossy text))))
