-- The lines of boards.
use Rattle.std.specs.Prelude.{ℕ, ◌+◌, ◌-◌, zero, suc, List, [], ◌∷◌, ◌++◌, length, codes, slice_index_or}
use Rattle.zed_world.specs.Contents.{Contents}
use Rattle.zed_world.specs.declared.board.BoardData.{BoardData}
use Rattle.zed_world.specs.declared.board.Properties.{Properties}
use Rattle.zed_log.specs.Fields.{number, quoted}

-- an exit: the number of the board that it leads to, or `-` (45) where it leads to none
abbrev pub exit : ℕ → List ℕ
exit zero = 45 ∷ []
exit (suc n) = number (suc n)

-- the four sides, each with its exit
unfoldable pub exits : Properties → List ℕ
exits p =
    codes "north " ++ exit p.north ++ codes " south " ++ exit p.south ++ codes " west " ++ exit p.west ++ codes " east " ++ exit p.east

-- what stands before the line feed in the line of a board: its number, its rank, how many stats stand beside its player, its exits, its name
unfoldable pub board_words : ℕ → ℕ → BoardData → List ℕ
board_words n rank b =
    number n ++ codes "  rank " ++ number rank ++ codes "  stats " ++ number (length b.stats - 1) ++ codes "  " ++ exits b.properties ++ codes "  " ++ quoted b.name

-- the line of a board
abbrev pub board_line : ℕ → ℕ → BoardData → List ℕ
board_line n rank b = board_words n rank b ++ 10 ∷ []

-- the lines of boards from board n on; these are the ranks of all boards by number
abbrev pub board_lines : List ℕ → ℕ → List BoardData → List ℕ
board_lines ranks n [] = []
board_lines ranks n (b ∷ bs) = board_line n (slice_index_or ranks n 0) b ++ board_lines ranks (n + 1) bs

-- a line for each board of a world, in the order of their numbers
abbrev pub boards_text : List ℕ → Contents → List ℕ
boards_text ranks w = board_lines ranks 0 w.boards
