-- The lines of stats.
use Rattle.std.specs.Prelude.{ℕ, ◌+◌, List, [], ◌∷◌, ◌++◌, length, codes, Option, Some, None}
use Rattle.zed_types.specs.declared.tile.Tile.{Tile}
use Rattle.zed_types.specs.Table.{tile_at}
use Rattle.zed_world.specs.declared.board.BoardData.{BoardData}
use Rattle.zed_world.specs.declared.stat.Code.{Code}
use Rattle.zed_world.specs.declared.stat.Code.TheVariants as code
use Rattle.zed_world.specs.declared.stat.StatData.{StatData}
use Rattle.zed_log.specs.Fields.{number, integer, quoted, element, place}
use Rattle.zed_log.specs.Program.{first_line, program_bytes}

-- the element of a tile by its word and number, or `-` (45) where there is no tile
abbrev pub element_of : Option Tile → List ℕ
element_of None = 45 ∷ []
element_of (Some t) = element t.element

-- the program of a stat on a board with these stats: `-`, or how long it is, or whose it is; and its first line
abbrev pub program_words : List StatData → Code → List ℕ
program_words stats code.None = 45 ∷ []
program_words stats (code.Own bytes) = number (length bytes) ++ codes " bytes  " ++ quoted (first_line bytes)
program_words stats (code.Same n) = codes "as " ++ number n ++ codes "  " ++ quoted (first_line (program_bytes stats (code.Same n)))

-- what a stat does when: its cycle and its three parameters
unfoldable pub fields : StatData → List ℕ
fields s = codes "cycle " ++ integer s.cycle ++ codes "  p1 " ++ number s.p1 ++ codes " p2 " ++ number s.p2 ++ codes " p3 " ++ number s.p3

-- what stands before the line feed in the line of a stat: its number, its place, the element there, its cycle and parameters, its program
unfoldable pub stat_words : BoardData → ℕ → StatData → List ℕ
stat_words b n s =
    number n ++ codes "  " ++ place s.x s.y ++ codes "  " ++ element_of (tile_at b.tiles s.x s.y) ++ codes "  " ++ fields s ++ codes "  " ++ program_words b.stats s.code

-- the line of a stat
abbrev pub stat_line : BoardData → ℕ → StatData → List ℕ
stat_line b n s = stat_words b n s ++ 10 ∷ []

-- the lines of stats of a board from stat n on
abbrev pub stat_lines : BoardData → ℕ → List StatData → List ℕ
stat_lines b n [] = []
stat_lines b n (s ∷ ss) = stat_line b n s ++ stat_lines b (n + 1) ss

-- a line for each stat of a board, in the order of their numbers
abbrev pub stats_text : BoardData → List ℕ
stats_text b = stat_lines b 0 b.stats
