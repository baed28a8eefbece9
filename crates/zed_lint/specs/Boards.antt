-- What is found of a board as a whole, and of the world.
use Rattle.std.specs.Prelude.{ℕ, not, ◌&&◌, ◌==◌, nat_lt, if◌then◌else◌, List, ◌++◌, length, count_by, Option, Some, None}
use Rattle.zed_types.specs.declared.property.Side.{Side}
use Rattle.zed_types.specs.declared.property.Side.TheVariants.{North, South, West, East}
use Rattle.zed_types.specs.declared.tile.Tile.{Tile}
use Rattle.zed_world.specs.Writing.{body_text}
use Rattle.zed_world.specs.declared.board.BoardData.{BoardData}
use Rattle.zed_world.specs.declared.board.Properties.{Properties}
use Rattle.zed_lint.specs.Found.{noted}
use Rattle.zed_lint.specs.Utf8.{utf8_name}
use Rattle.zed_lint.specs.declared.finding.Finding.{Finding}
use Rattle.zed_lint.specs.declared.finding.Spot.TheVariants.{Board}
use Rattle.zed_lint.specs.declared.finding.What.{What}
use Rattle.zed_lint.specs.declared.finding.What.TheVariants.{LongFile, LongWorldName, LongBody, LongBoardName, NoPlayer, Players, ExitToItself}

-- a file of so many bytes, if they are over 350,000
abbrev pub long_file : ℕ → Option What
long_file bytes = if nat_lt 350000 bytes then Some (LongFile bytes) else None

-- a world's name of so many bytes, if they are over 8, which DOS leaves of the name of a file
abbrev pub long_world_name : ℕ → Option What
long_world_name bytes = if nat_lt 8 bytes then Some (LongWorldName bytes) else None

-- a body of so many bytes, if they are over 20,000
abbrev pub long_body : ℕ → Option What
long_body bytes = if nat_lt 20000 bytes then Some (LongBody bytes) else None

-- a board's name of so many bytes, if they are over 34, which ZZT's editor shows of one
abbrev pub long_board_name : ℕ → Option What
long_board_name bytes = if nat_lt 34 bytes then Some (LongBoardName bytes) else None

-- how many of these tiles have an element
abbrev pub count_of : ℕ → List Tile → ℕ
count_of element tiles = count_by (λ t. t.element == element) tiles

-- so many players, if they aren't one
abbrev pub other_players : ℕ → Option What
other_players count = if count == 0 then Some NoPlayer else (if count == 1 then None else Some (Players count))

-- on board n an exit to this board, if that is board n; 0 is no exit
abbrev pub self_exit : ℕ → Side → ℕ → Option What
self_exit n side exit = if not (exit == 0) && exit == n then Some (ExitToItself side) else None

-- the exits of board n that lead to itself
unfoldable pub exit_findings : ℕ → Properties → List Finding
exit_findings n p =
    noted (Board n) (self_exit n North p.north) ++ noted (Board n) (self_exit n South p.south) ++ noted (Board n) (self_exit n West p.west) ++ noted (Board n) (self_exit n East p.east)

-- what is found of board n as a whole: its body or its name is long, its name is UTF-8, its players (4) aren't one, exits lead to itself
unfoldable pub whole_findings : ℕ → BoardData → List Finding
whole_findings n b =
    noted (Board n) (long_body (length (body_text b))) ++ noted (Board n) (long_board_name (length b.name)) ++ noted (Board n) (utf8_name b.name)
    ++ noted (Board n) (other_players (count_of 4 b.tiles)) ++ exit_findings n b.properties
