-- What is found in a world.
use Rattle.std.specs.List.{flat_map}
use Rattle.std.specs.Prelude.{ℕ, List, ◌++◌, length}
use Rattle.zed_world.specs.Contents.{Contents}
use Rattle.zed_world.specs.Writing.{world_text}
use Rattle.zed_world.specs.declared.board.BoardData.{BoardData}
use Rattle.zed_lint.specs.Boards.{long_file, long_world_name, whole_findings}
use Rattle.zed_lint.specs.Commands.{board_bytes, board_words}
use Rattle.zed_lint.specs.Found.{each_from, noted}
use Rattle.zed_lint.specs.Stats.{stats_findings}
use Rattle.zed_lint.specs.Tiles.{tiles_findings}
use Rattle.zed_lint.specs.Utf8.{utf8_name}
use Rattle.zed_lint.specs.declared.finding.Finding.{Finding}
use Rattle.zed_lint.specs.declared.finding.Spot.TheVariants.{World}

-- what is found on board n, with the flags that are held, and set by programs: of the board as a whole, of its tiles, of its stats
unfoldable pub board_findings : List (List ℕ) → List (List ℕ) → ℕ → BoardData → List Finding
board_findings held set n b = whole_findings n b ++ tiles_findings n b ++ stats_findings held set n b

-- what is found on boards
abbrev pub boards_findings : List (List ℕ) → List (List ℕ) → List BoardData → List Finding
boards_findings held set boards = each_from (board_findings held set) 0 boards

-- the bytes of the programs of a world
abbrev pub programs_bytes : Contents → List ℕ
programs_bytes w = flat_map board_bytes w.boards

-- what is found in a world: on its boards, in the order of their numbers, and of its file and its name
unfoldable pub findings : Contents → List Finding
findings w =
    boards_findings w.header.flags (flat_map board_words w.boards) w.boards ++ noted World (long_file (length (world_text w)))
    ++ noted World (long_world_name (length w.header.name)) ++ noted World (utf8_name w.header.name)
