-- The characters of code page 437 as text.
use Rattle.std.specs.Prelude.{ℕ, List, encode_utf8}
use Rattle.zed_plaintext.specs.CodePage.{code_point}

-- a character in UTF-8
unfoldable pub glyph : ℕ → List ℕ
glyph c = encode_utf8 (code_point c)
