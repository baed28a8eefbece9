-- A program as a text.
use Rattle.std.specs.Prelude.{ℕ, List, encode_utf8}
use Rattle.std.specs.List.{flat_map}
use Rattle.zed_plaintext.specs.Characters.{text_point}

-- the characters of its bytes, in UTF-8
abbrev pub text_of : List ℕ → List ℕ
text_of program = flat_map (λ b. encode_utf8 (text_point b)) program
