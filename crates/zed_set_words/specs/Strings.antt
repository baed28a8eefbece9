-- Strings of a world in words: each character of a word is a byte.
use Rattle.std.specs.Prelude.{ℕ, nat_le, Bool, ◌&&◌, List, length, Option, Some, None, if◌then◌else◌}
use Rattle.std.specs.List.{filter_map, list_all}
use Rattle.std.specs.Str.{chars}
use Rattle.zed_plaintext.specs.Characters.{byte_of, is_known}

-- the bytes of the characters of a word, as a program's text has them: those of code page 437
abbrev pub bytes_in : List ℕ → List ℕ
bytes_in word = filter_map byte_of (chars word)

-- at most so many characters, and each has a byte
abbrev pub are_bytes : ℕ → List ℕ → Bool
are_bytes most characters = list_all is_known characters && nat_le (length characters) most

-- a string of at most so many bytes
abbrev pub string_of : ℕ → List ℕ → Option (List ℕ)
string_of most word = if are_bytes most (chars word) then Some (bytes_in word) else None
