-- Stats and their programs on a page.
use Rattle.std.specs.Prelude.{ℕ, ◌+◌, ◌*◌, Bool, true, false, if◌then◌else◌, List, [], ◌∷◌, ◌++◌, codes}
use Rattle.std.specs.List.{flat_map}
use Rattle.zed_types.specs.Table.{tile_at}
use Rattle.zed_world.specs.declared.board.BoardData.{BoardData}
use Rattle.zed_world.specs.declared.stat.Code.{Code}
use Rattle.zed_world.specs.declared.stat.Code.TheVariants as code
use Rattle.zed_world.specs.declared.stat.StatData.{StatData}
use Rattle.zed_world.specs.Offsets.{is_passage_at}
use Rattle.zed_log.specs.Fields.{number, place}
use Rattle.zed_log.specs.Program.{first_line, program_bytes}
use Rattle.zed_log.specs.Stats.{element_of}
use Rattle.cmd_page.specs.Escaping.{escaped, program_byte}

-- what stands in a link to a board before its number
unfoldable pub anchor_start : List ℕ
anchor_start = codes "<a href='#board-"

-- where a link to a board begins
unfoldable pub anchor : ℕ → List ℕ
anchor n = anchor_start ++ number n ++ codes "'>"

-- a stat by its number, the element at its place, and its place
unfoldable pub stat_words : BoardData → ℕ → StatData → List ℕ
stat_words b n s = number n ++ codes " " ++ element_of (tile_at b.tiles s.x s.y) ++ codes " " ++ place s.x s.y

-- ---- over the picture

-- what is told of a stat where the mouse is over it: with the first line of its program
unfoldable pub tip : BoardData → ℕ → StatData → List ℕ
tip b n s = codes "<title>" ++ stat_words b n s ++ codes " " ++ escaped (first_line (program_bytes b.stats s.code)) ++ codes "</title>"

-- where the cell of a stat begins: it has 8 by 14 units
unfoldable pub cell_start : List ℕ
cell_start = codes "<rect width='8' height='14'"

-- an attribute of an element of the page: its name, and a number between quotes
unfoldable pub attribute : List ℕ → ℕ → List ℕ
attribute name n = codes " " ++ name ++ codes "='" ++ number n ++ codes "'"

-- where a cell lies: 8 units for each column, 14 for each row
unfoldable pub position : ℕ → ℕ → List ℕ
position x y = attribute (codes "x") (8 * x) ++ attribute (codes "y") (14 * y)

-- the cell of a stat
unfoldable pub cell : BoardData → ℕ → StatData → List ℕ
cell b n s = cell_start ++ position s.x s.y ++ codes ">" ++ tip b n s ++ codes "</rect>"

-- the same; of a passage a link to its board
unfoldable pub linked_cell : BoardData → ℕ → StatData → List ℕ
linked_cell b n s = anchor s.p3 ++ cell b n s ++ codes "</a>"

-- the cell of a stat, which is a link where it stands on a passage
abbrev pub mark : BoardData → ℕ → StatData → List ℕ
mark b n s = if is_passage_at b.tiles s.x s.y then linked_cell b n s else cell b n s

-- the cells of stats from stat n on
abbrev pub marks : BoardData → ℕ → List StatData → List ℕ
marks b n [] = []
marks b n (s ∷ ss) = mark b n s ++ marks b (n + 1) ss

-- ---- programs

-- a program that folds
unfoldable pub fold : BoardData → ℕ → StatData → List ℕ → List ℕ
fold b n s bytes =
    codes "<details>" ++ codes "<summary>" ++ stat_words b n s ++ codes "</summary>" ++ codes "<pre>\n" ++ flat_map program_byte bytes ++ codes "</pre></details>\n"

-- whose program a stat has
unfoldable pub sharing : BoardData → ℕ → StatData → ℕ → List ℕ
sharing b n s owner = codes "<p>" ++ stat_words b n s ++ codes " as " ++ number owner ++ codes "</p>\n"

-- the program of a stat, if it has one
abbrev pub program_of : BoardData → ℕ → StatData → Code → List ℕ
program_of b n s code.None = []
program_of b n s (code.Own bytes) = fold b n s bytes
program_of b n s (code.Same owner) = sharing b n s owner

-- the programs of stats from stat n on
abbrev pub programs : BoardData → ℕ → List StatData → List ℕ
programs b n [] = []
programs b n (s ∷ ss) = program_of b n s s.code ++ programs b (n + 1) ss
