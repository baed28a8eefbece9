-- A board on a page.
use Rattle.std.specs.Prelude.{ℕ, ◌+◌, ◌==◌, if◌then◌else◌, List, [], ◌∷◌, ◌++◌, codes}
use Rattle.zed_world.specs.declared.board.BoardData.{BoardData}
use Rattle.zed_world.specs.declared.board.Properties.{Properties}
use Rattle.zed_log.specs.Fields.{number}
use Rattle.zed_look.specs.declared.form.Form.TheVariants.{Svg}
use Rattle.zed_look.specs.Drawing.{board_picture}
use Rattle.zed_look.specs.Form.{text_in}
use Rattle.cmd_page.specs.Escaping.{escaped}
use Rattle.cmd_page.specs.Programs.{anchor, marks, programs}

-- a link by the number of a board
unfoldable pub link : ℕ → List ℕ
link n = anchor n ++ number n ++ codes "</a>"

-- an exit: a link to the board that it leads to, or `-` where it leads to none
abbrev pub exit : ℕ → List ℕ
exit n = if n == 0 then codes "-" else link n

-- the four sides, each with its exit
unfoldable pub exits : Properties → List ℕ
exits p =
    codes "<p>north " ++ exit p.north ++ codes ", south " ++ exit p.south ++ codes ", west " ++ exit p.west ++ codes ", east " ++ exit p.east ++ codes "</p>\n"

-- a board by its number and its name
unfoldable pub board_title : ℕ → BoardData → List ℕ
board_title n b = number n ++ codes " " ++ escaped b.name

-- the line of a board in the list of boards
unfoldable pub item : ℕ → BoardData → List ℕ
item n b = codes "<li>" ++ anchor n ++ board_title n b ++ codes "</a></li>\n"

-- the lines of boards from board n on
abbrev pub items : ℕ → List BoardData → List ℕ
items n [] = []
items n (b ∷ bs) = item n b ++ items (n + 1) bs

-- the picture of a board, as `show --svg` prints it
abbrev pub picture : BoardData → List ℕ
picture b = text_in Svg (board_picture 0 b)

-- the picture with the cells of the stats over it; columns and rows are counted from 1, so these begin at 8 and 14
unfoldable pub drawn : BoardData → List ℕ
drawn b =
    codes "<div>\n" ++ picture b ++ codes "<svg " ++ codes "viewBox='8 14 " ++ codes "480 350'>\n" ++ marks b 0 b.stats ++ codes "</svg></div>\n"

-- what stands where the part of a board begins, before its number
unfoldable pub section_tag : List ℕ
section_tag = codes "<section id='board-"

-- where the part of a board begins
unfoldable pub section_start : ℕ → List ℕ
section_start n = section_tag ++ number n ++ codes "'>\n<h2>"

-- the head of the part of a board: its number and name, and its exits
unfoldable pub heading : ℕ → BoardData → List ℕ
heading n b =
    section_start n ++ board_title n b ++ codes "</h2>\n" ++ exits b.properties

-- the part of a board
unfoldable pub section : ℕ → BoardData → List ℕ
section n b = heading n b ++ drawn b ++ programs b 0 b.stats ++ codes "</section>\n"

-- the parts of boards from board n on
abbrev pub sections : ℕ → List BoardData → List ℕ
sections n [] = []
sections n (b ∷ bs) = section n b ++ sections (n + 1) bs
