-- A picture as SVG: 480 by 350 units, 8 by 14 for each place.
use Rattle.std.specs.Prelude.{ℕ, zero, suc, ◌+◌, ◌*◌, Bool, ◌==◌, ◌&&◌, ◌||◌, if◌then◌else◌, List, [], ◌∷◌, ◌++◌, codes}
use Rattle.zed_look.specs.declared.look.Spot.{Spot}
use Rattle.zed_look.specs.Colours.{ink, paper, rgb}
use Rattle.zed_look.specs.Glyphs.{glyph}
use Rattle.zed_look.specs.Parts.{ended, number}

-- the colour behind a place: a solid wall (219) fills it with its own
abbrev pub back : Spot → ℕ
back s = if s.character == 219 then ink s.attribute else paper s.attribute

-- whether a character has nothing to be seen beside what is behind it
abbrev pub is_blank : ℕ → Bool
is_blank c = c == 0 || c == 32 || c == 219 || c == 255

-- whether two places look alike
abbrev pub is_same : Spot → Spot → Bool
is_same s t = s.character == t.character && s.attribute == t.attribute

-- a character of a text, of which `&` (38), `<` (60) and `>` (62) are spelled out
abbrev pub escaped : ℕ → List ℕ
escaped c = if c == 38 then codes "&amp;" else if c == 60 then codes "&lt;" else if c == 62 then codes "&gt;" else glyph c

-- a text n times
abbrev pub copies : ℕ → List ℕ → List ℕ
copies zero text = []
copies (suc n) text = text ++ copies n text

-- an attribute of an element of the file: its name, and a number between quotes
unfoldable pub attribute : List ℕ → ℕ → List ℕ
attribute name n = codes " " ++ name ++ codes "='" ++ number n ++ codes "'"

-- the attribute that tells a colour
unfoldable pub fill : ℕ → List ℕ
fill colour = codes " fill='" ++ rgb colour ++ codes "'"

-- the start of an element of the file: `<`, its name with what it always has, and where it lies
unfoldable pub start : List ℕ → ℕ → ℕ → List ℕ
start name x y = codes "<" ++ name ++ attribute (codes "x") x ++ attribute (codes "y") y

-- what is behind n places of row y from column x on
unfoldable pub rectangle : ℕ → ℕ → ℕ → ℕ → List ℕ
rectangle y x n colour =
    start (codes "rect height='14'") (8 * x) (14 * y) ++ attribute (codes "width") (8 * n) ++ fill colour ++ ended (codes "/>")

-- a text between the tags of an element of the file
unfoldable pub content : List ℕ → List ℕ
content text = codes ">" ++ text ++ ended (codes "</text>")

-- the characters of n places that look alike, as wide as these
unfoldable pub words : ℕ → ℕ → ℕ → Spot → List ℕ
words y x n s =
    start (codes "text lengthAdjust='spacingAndGlyphs'") (8 * x) (14 * y + 11) ++ attribute (codes "textLength") (8 * n) ++ fill (ink s.attribute) ++ content (copies n (escaped s.character))

-- n places that look alike, of row y from column x on; what is black is left as it is
abbrev pub span : ℕ → ℕ → ℕ → Spot → List ℕ
span y x n s =
    (if back s == 0 then [] else rectangle y x n (back s)) ++ (if is_blank s.character then [] else words y x n s)

-- row y from column x on: n places that look so, and those behind them
abbrev pub spans_from : ℕ → ℕ → ℕ → Spot → List Spot → List ℕ
spans_from y x n s [] = span y x n s
spans_from y x n s (t ∷ rest) = if is_same s t then spans_from y x (n + 1) s rest else span y x n s ++ spans_from y (x + n) 1 t rest

-- row y
abbrev pub svg_row : ℕ → List Spot → List ℕ
svg_row y [] = []
svg_row y (s ∷ rest) = spans_from y 0 1 s rest

-- the rows from y on
abbrev pub svg_rows : ℕ → List (List Spot) → List ℕ
svg_rows y [] = []
svg_rows y (row ∷ rows) = svg_row y row ++ svg_rows (y + 1) rows

-- the file: its size, its font, a black ground, and what stands on it
unfoldable pub svg_text : List (List Spot) → List ℕ
svg_text rows =
    ended (codes "<svg xmlns='http://www.w3.org/2000/svg' viewBox='0 0 480 350' font-family='monospace' font-size='12' shape-rendering='crispEdges'>")
    ++ ended (codes "<rect width='480' height='350'/>") ++ svg_rows 0 rows ++ ended (codes "</svg>")
