-- The characters that stand for the bytes of a program, as code points.
use Rattle.std.specs.Prelude.{ℕ, ◌==◌, if◌then◌else◌, Bool, Option, is_some}
use Rattle.std.specs.List.{find, range_with_len}
use Rattle.zed_plaintext.specs.CodePage.{code_point}

-- the character of a byte in a text: 13 ends a line; 0 has a picture, since the code page shows it as a blank; the others are those of the code page
abbrev pub text_point : ℕ → ℕ
text_point b = if b == 0 then 9216 else if b == 13 then 10 else code_point b

-- the first of so many bytes from n on whose character this is, if one has it
unfoldable pub first_of : ℕ → ℕ → ℕ → Option ℕ
first_of c n count = find (λ b. text_point b == c) (range_with_len n count)

-- the byte whose character this is, if there is one
unfoldable pub byte_of : ℕ → Option ℕ
byte_of c = first_of c 0 256

-- whether some byte has this character
abbrev pub is_known : ℕ → Bool
is_known c = is_some (byte_of c)
