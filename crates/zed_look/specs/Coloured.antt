-- A picture as text with colours, for a terminal.
use Rattle.std.specs.Prelude.{ℕ, ◌+◌, ◌-◌, ◌==◌, nat_lt, if◌then◌else◌, List, [], ◌∷◌, ◌++◌, codes, Option, Some, None}
use Rattle.std.specs.List.{flat_map}
use Rattle.zed_look.specs.declared.look.Picture.{Picture}
use Rattle.zed_look.specs.declared.look.Spot.{Spot}
use Rattle.zed_look.specs.Colours.{blinks, hue, ink, paper}
use Rattle.zed_look.specs.Glyphs.{glyph}
use Rattle.zed_look.specs.Parts.{number}

-- what a terminal calls the colour of a character: 30 to 37, and 90 to 97 for the bright ones
abbrev pub ink_code : ℕ → ℕ
ink_code c = if nat_lt c 8 then 30 + hue c else 90 + hue (c - 8)

-- what sets an attribute: escape (27), `[` (91), a reset, 5 for blinking, the colours of character and background, and `m`
unfoldable pub sgr : ℕ → List ℕ
sgr a = 27 ∷ codes "[0;" ++ (if blinks a then codes "5;" else []) ++ number (ink_code (ink a)) ++ codes ";" ++ number (40 + hue (paper a)) ++ codes "m"

-- what changes the attribute, if that is to be another
abbrev pub change : Option ℕ → ℕ → List ℕ
change None a = sgr a
change (Some b) a = if b == a then [] else sgr a

-- a row behind a place of this attribute, or none; with a reset and a line feed (10) at its end
abbrev pub coloured_row : Option ℕ → List Spot → List ℕ
coloured_row before [] = 27 ∷ codes "[0m" ++ 10 ∷ []
coloured_row before (s ∷ row) = change before s.attribute ++ glyph s.character ++ coloured_row (Some s.attribute) row

-- a picture row by row
abbrev pub coloured_text : Picture → List ℕ
coloured_text picture = flat_map (coloured_row None) picture.rows
