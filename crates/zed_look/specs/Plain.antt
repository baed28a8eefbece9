-- A picture as text without colour.
use Rattle.std.specs.Prelude.{ℕ, List, [], ◌∷◌, ◌++◌}
use Rattle.std.specs.List.{flat_map}
use Rattle.zed_look.specs.declared.look.Picture.{Picture}
use Rattle.zed_look.specs.declared.look.Spot.{Spot}
use Rattle.zed_look.specs.Glyphs.{glyph}

-- the characters of a row
abbrev pub characters_of : List Spot → List ℕ
characters_of row = flat_map (λ s. glyph s.character) row

-- a row, with a line feed (10) at its end
abbrev pub plain_row : List Spot → List ℕ
plain_row row = characters_of row ++ 10 ∷ []

-- a picture row by row
abbrev pub plain_text : Picture → List ℕ
plain_text picture = flat_map plain_row picture.rows
