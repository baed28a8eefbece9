-- What is found of stats and their programs.
use Rattle.std.specs.Prelude.{ℕ, ◌-◌, Bool, ◌&&◌, ◌||◌, ◌==◌, if◌then◌else◌, List, ◌++◌, length, position, slice_get, Option, Some, None}
use Rattle.zed_types.specs.declared.tile.Tile.{Tile}
use Rattle.zed_world.specs.Offsets.{is_passage}
use Rattle.zed_world.specs.declared.board.BoardData.{BoardData}
use Rattle.zed_world.specs.declared.stat.StatData.{StatData}
use Rattle.zed_log.specs.Program.{own_bytes}
use Rattle.zed_types.specs.Table.{tile_at}
use Rattle.zed_lint.specs.Found.{each_from, noted}
use Rattle.zed_lint.specs.Labels.{labels_findings}
use Rattle.zed_lint.specs.Program.{lines_findings}
use Rattle.zed_lint.specs.Tiles.{wants_stat}
use Rattle.zed_lint.specs.Utf8.{utf8_program}
use Rattle.zed_lint.specs.declared.finding.Finding.{Finding}
use Rattle.zed_lint.specs.declared.finding.Spot.{Spot}
use Rattle.zed_lint.specs.declared.finding.Spot.TheVariants.{Stat}
use Rattle.zed_lint.specs.declared.finding.What.{What}
use Rattle.zed_lint.specs.declared.finding.What.TheVariants.{OutsideTable, NeedlessStat, PassageToItself, NoEndOfLine, LineFeed}

-- whether an element may have a stat: one that wants it, and the monitor (3), as ZZT has it in place of the player
abbrev pub may_have_stat : ℕ → Bool
may_have_stat e = e == 3 || wants_stat e

-- a stat outside the table, or on a tile that has no use for it
abbrev pub misplaced : Option Tile → Option What
misplaced None = Some OutsideTable
misplaced (Some t) = if may_have_stat t.element then None else Some NeedlessStat

-- on board n a passage to this board, if that is board n
abbrev pub self_passage : ℕ → Option Tile → ℕ → Option What
self_passage n tile board = if is_passage tile && board == n then Some PassageToItself else None

-- a program with this last byte, if that doesn't end a line (13)
abbrev pub unended : Option ℕ → Option What
unended None = None
unended (Some b) = if b == 13 then None else Some NoEndOfLine

-- whether a byte is a line feed
abbrev pub is_line_feed : ℕ → Bool
is_line_feed b = b == 10

-- a line feed at a place, if there is one
abbrev pub fed_at : Option ℕ → Option What
fed_at None = None
fed_at (Some at) = Some (LineFeed at)

-- the first line feed of a program
unfoldable pub line_feed : List ℕ → Option What
line_feed program = fed_at (position is_line_feed program)

-- what is found at a spot of the program that a stat has of its own, among these stats, with the flags that are held, and set by programs
unfoldable pub program_findings : Spot → List StatData → List (List ℕ) → List (List ℕ) → List ℕ → List Finding
program_findings spot stats held set program =
    noted spot (unended (slice_get program (length program - 1))) ++ noted spot (line_feed program) ++ noted spot (utf8_program program)
    ++ labels_findings spot stats program ++ lines_findings spot stats held set program

-- the spot of stat i of board n
abbrev pub stat_spot : ℕ → BoardData → ℕ → StatData → Spot
stat_spot n b i s = Stat n i (record { x = s.x; y = s.y }) (tile_at b.tiles s.x s.y)

-- what is found of stat i of board n
unfoldable pub stat_findings : List (List ℕ) → List (List ℕ) → ℕ → BoardData → ℕ → StatData → List Finding
stat_findings held set n b i s =
    noted (stat_spot n b i s) (misplaced (tile_at b.tiles s.x s.y)) ++ noted (stat_spot n b i s) (self_passage n (tile_at b.tiles s.x s.y) s.p3) ++ program_findings (stat_spot n b i s) b.stats held set (own_bytes s.code)

-- what is found of the stats of board n
abbrev pub stats_findings : List (List ℕ) → List (List ℕ) → ℕ → BoardData → List Finding
stats_findings held set n b = each_from (stat_findings held set n b) 0 b.stats
