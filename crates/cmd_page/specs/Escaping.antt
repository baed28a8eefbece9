-- Names and programs as text of a page.
use Rattle.std.specs.Prelude.{ℕ, ◌==◌, if◌then◌else◌, List, [], ◌∷◌, codes}
use Rattle.std.specs.List.{flat_map}
use Rattle.zed_look.specs.Glyphs.{glyph}

-- a byte: `&` (38), `<` (60), `>` (62) and both quotes (34, 39) are spelled out, the others are the characters that ZZT shows for them
unfoldable pub escape : ℕ → List ℕ
escape b =
    if b == 38 then codes "&amp;"
    else if b == 60 then codes "&lt;"
    else if b == 62 then codes "&gt;"
    else if b == 34 then codes "&quot;"
    else if b == 39 then codes "&#39;"
    else flat_map glyph (b ∷ [])

-- a string
abbrev pub escaped : List ℕ → List ℕ
escaped s = flat_map escape s

-- a byte of a program: 13 ends a line
abbrev pub program_byte : ℕ → List ℕ
program_byte b = if b == 13 then codes "\n" else escape b
