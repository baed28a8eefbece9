-- A picture as text without colour, with the numbers of columns and rows at its edges.
use Rattle.std.specs.Prelude.{ℕ, ◌+◌, nat_lt, if◌then◌else◌, List, [], ◌∷◌, ◌++◌, codes}
use Rattle.zed_look.specs.declared.look.Picture.{Picture}
use Rattle.zed_look.specs.declared.look.Spot.{Spot}
use Rattle.zed_look.specs.Parts.{ended, number}
use Rattle.zed_look.specs.Plain.{plain_row}

-- the tens of the columns 10, 20 and so on
unfoldable pub tens : List ℕ
tens = ended (codes "            1         2         3         4         5         6")

-- the last digits of the columns 1 to 60
unfoldable pub last_digits : List ℕ
last_digits = ended (codes "   123456789012345678901234567890123456789012345678901234567890")

-- the number of a row in two places, and a blank
unfoldable pub row_number : ℕ → List ℕ
row_number y = (if nat_lt y 10 then codes " " else []) ++ number y ++ codes " "

-- the rows from row y on, each with its number in front
abbrev pub ruled_rows : ℕ → List (List Spot) → List ℕ
ruled_rows y [] = []
ruled_rows y (row ∷ rows) = row_number y ++ plain_row row ++ ruled_rows (y + 1) rows

-- a picture row by row, below the numbers of the columns
unfoldable pub ruled_text : Picture → List ℕ
ruled_text picture = tens ++ last_digits ++ ruled_rows 1 picture.rows
