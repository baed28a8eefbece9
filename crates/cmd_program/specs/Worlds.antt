-- A world with another program for a stat.
use Rattle.std.specs.Prelude.{◌≡◌, ◌⊎◌, ℕ, ◌+◌, List, [], ◌∷◌, slice_get, slice_set, Option, Some, None, Result, Ok, Err}
use Rattle.zed_world.specs.Contents.{Contents}
use Rattle.zed_world.specs.declared.board.BoardData.{BoardData}
use Rattle.zed_world.specs.declared.stat.Code.{Code}
use Rattle.zed_world.specs.declared.stat.StatData.{StatData}
use Rattle.zed_world.specs.declared.error.WorldError.TheVariants as world
use Rattle.zed_world.specs.Writing.{HasText, first_over}
use Rattle.cmd_program.specs.declared.error.ReprogramError.{ReprogramError}
use Rattle.cmd_program.specs.declared.error.ReprogramError.TheVariants.{NoBoard, NoSuch, BoardOver}
use Rattle.cmd_program.specs.Codes.{code_in, owner_of}

-- a world has this board, and the board this stat
abbrev pub HasStat : Contents → ℕ → ℕ → Type 0
HasStat w board stat = (b : BoardData) × (s : StatData) × (slice_get w.boards board ≡ Some b) × (slice_get b.stats stat ≡ Some s)

-- a stat with another program
abbrev pub stat_with : StatData → Code → StatData
stat_with s c = record s { code = c }

-- stats from this number on, where the stat `owner` gets these bytes
abbrev pub stats_from : ℕ → List ℕ → ℕ → List StatData → List StatData
stats_from owner program n [] = []
stats_from owner program n (s ∷ ss) = stat_with s (code_in owner program n s.code) ∷ stats_from owner program (n + 1) ss

-- a board whose stat `owner` gets these bytes
abbrev pub board_with : ℕ → List ℕ → BoardData → BoardData
board_with owner program b = record b { stats = stats_from owner program 0 b.stats }

-- a world with another board of this number
abbrev pub world_with : Contents → ℕ → BoardData → Contents
world_with w number b = record w { boards = slice_set w.boards number b }

-- a world where a file can spell it, or its first board that has more than 32,767 bytes
abbrev pub Fits : Contents → Result Contents ReprogramError → Type 0
Fits w r =
    (HasText 32767 w × (r ≡ Ok w))
    ⊎ ((board : ℕ) × (bytes : ℕ) × (first_over 32767 0 w.boards ≡ Some (world.BoardOver board bytes)) × (r ≡ Err (BoardOver board bytes)))

-- what a world comes to, of which this stat of this board gets these bytes, with those that share its program
abbrev pub OfStat : Contents → ℕ → BoardData → ℕ → List ℕ → Option StatData → Result Contents ReprogramError → Type 0
OfStat w board b stat program None r = r ≡ Err NoSuch
OfStat w board b stat program (Some s) r = Fits (world_with w board (board_with (owner_of stat s.code) program b)) r

-- the same of a board
abbrev pub OfBoard : Contents → ℕ → ℕ → List ℕ → Option BoardData → Result Contents ReprogramError → Type 0
OfBoard w board stat program None r = r ≡ Err NoBoard
OfBoard w board stat program (Some b) r = OfStat w board b stat program (slice_get b.stats stat) r

-- the world with this program for a stat, by the numbers of its board and of itself, or the first refusal
unfoldable pub IsReprogrammed : Contents → ℕ → ℕ → List ℕ → Result Contents ReprogramError → Type 0
IsReprogrammed w board stat program r = OfBoard w board stat program (slice_get w.boards board) r
