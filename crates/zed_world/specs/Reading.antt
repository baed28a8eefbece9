-- What a world file says: from left to right, with the first fault that is met.
use Rattle.std.specs.Prelude.{ℕ, zero, suc, ℤ, pos, negsuc, ◌+◌, not, ◌==◌, ◌≤◌, nat_lt, nat_le, if◌then◌else◌, List, [], ◌∷◌, ◌++◌, length, take, drop, slice_get, Option, Some, None, Result, Ok, Err, ◌≡◌, ◌⊎◌}
use Rattle.byteorder.specs.Endian.{little_number}
use Rattle.zed_types.specs.Limits.{largest_body, table_tiles}
use Rattle.zed_types.specs.declared.tile.Tile.{Tile}
use Rattle.zed_types.specs.Steps.{◌>>=◌}
use Rattle.zed_runs.specs.Reading.{tiles_at}
use Rattle.zed_world.specs.declared.error.WorldError.{WorldError}
use Rattle.zed_world.specs.declared.error.WorldError.TheVariants.{Memory, NotZzt, TooManyBoards, Truncated, BadBoardSize, TooManyStats, BadShare}
use Rattle.zed_world.specs.declared.stat.Code.{Code}
use Rattle.zed_world.specs.declared.stat.Code.TheVariants as code
use Rattle.zed_world.specs.declared.stat.StatData.{StatData}
use Rattle.zed_world.specs.declared.board.BoardData.{BoardData}
use Rattle.zed_world.specs.Contents.{Contents}
use Rattle.zed_world.specs.Offsets.{header_at, properties_at, stat_with}
use Rattle.zed_world.specs.Fields.{integer_at, string_at}

-- what a function returned, seen by view, is what reading gives, unless memory ran out
abbrev pub Gives : {X Y : Type 0} → (X → Y) → Result X WorldError → Result Y WorldError → Type 0
Gives view (Ok x) read = read ≡ Ok (view x)
Gives view (Err e) read = (e ≡ Memory) ⊎ (read ≡ Err e)

-- what was found, or a fault
abbrev pub found_or : {A : Type 0} → WorldError → Option A → Result A WorldError
found_or fault None = Err fault
found_or fault (Some x) = Ok x

-- a count from 0 to a limit
abbrev pub counted : ℕ → WorldError → ℤ → Result ℕ WorldError
counted limit e (pos n) = if nat_le n limit then Ok n else Err e
counted limit e (negsuc n) = Err e

-- so many more items after these, each read knowing those before it
unfoldable pub items_at : {A : Type 0} → (List A → List ℕ → Result (A × List ℕ) WorldError) → ℕ → List A → List ℕ
    → Result (List A) WorldError
items_at item zero done bytes = Ok done
items_at item (suc n) done bytes = do
  next ← item done bytes
  items_at item n (done ++ next.0 ∷ []) next.1

-- ---- a board

-- the program of stat n for a stat that shares it: the stats read so far have theirs already, so that a chain is one step
abbrev pub shared : ℕ → Code → Code
shared n code.None = code.None
shared n (code.Own bytes) = code.Same n
shared n (code.Same m) = code.Same m

-- the program of a stat that there may be
abbrev pub code_of : Option StatData → Code
code_of None = code.None
code_of (Some stat) = stat.code

-- the program by its length, after these stats, and what follows it
unfoldable pub code_at : List StatData → ℤ → List ℕ → Result (Code × List ℕ) WorldError
code_at done (pos zero) rest = Ok (code.None, rest)
code_at done (pos (suc n)) rest =
    if nat_lt (length rest) (suc n) then Err Truncated else Ok (code.Own (take (suc n) rest), drop (suc n) rest)
code_at done (negsuc n) rest =
    if nat_lt (suc n) (length done) then Ok (shared (suc n) (code_of (slice_get done (suc n))), rest) else Err BadShare

-- the next stat after these, and what follows it
unfoldable pub stat_at : ℕ → ℕ → List Tile → List StatData → List ℕ → Result (StatData × List ℕ) WorldError
stat_at boards stats tiles done bytes =
    if nat_lt (length bytes) 33 then Err Truncated else do
      program ← code_at done (integer_at bytes 23) (drop 33 bytes)
      Ok (stat_with boards stats tiles bytes program.0, program.1)

-- what follows the tiles of a board
unfoldable pub board_with : ℕ → List ℕ → List Tile → List ℕ → Result BoardData WorldError
board_with boards name tiles rest =
    if nat_lt (length rest) 88 then Err Truncated else do
      others ← counted 150 TooManyStats (integer_at rest 86)
      stats ← items_at (stat_at boards (others + 1) tiles) (others + 1) [] (drop 88 rest)
      Ok (record { name = name; tiles = tiles; properties = properties_at boards rest; stats = stats })

-- a board by its body
unfoldable pub board_at : ℕ → List ℕ → Result BoardData WorldError
board_at boards body =
    if nat_lt (length body) 51 then Err Truncated else do
      table ← found_or Truncated (tiles_at table_tiles (drop 51 body))
      board_with boards (string_at 50 body 0) table.0 table.1

-- ---- the file

-- a size, so many bytes, and what follows them
unfoldable pub body_at : List ℕ → Result (List ℕ × List ℕ) WorldError
body_at bytes =
    if nat_lt (length bytes) 2 then Err Truncated else
    if nat_lt largest_body (little_number 2 bytes) then Err BadBoardSize else
    if nat_lt (length (drop 2 bytes)) (little_number 2 bytes) then Err Truncated else Ok (take (little_number 2 bytes) (drop 2 bytes), drop (little_number 2 bytes) (drop 2 bytes))

-- the next board, whatever those before it are, and what follows it
unfoldable pub next_board_at : ℕ → List BoardData → List ℕ → Result (BoardData × List ℕ) WorldError
next_board_at boards done bytes = do
  body ← body_at bytes
  board ← board_at boards body.0
  Ok (board, body.1)

-- the number of boards beside the title stands in the header, and there may be as many
abbrev pub CountsBoards : List ℕ → Type 0
CountsBoards bytes = (others : ℕ) × (others ≤ 100) × (integer_at bytes 2 ≡ pos others)

-- the header is whole, is that of a world file, and counts the boards
pub record BeginsAWorld (bytes : List ℕ) : Type 0 where
  pub long : 512 ≤ length bytes
  pub type_word : little_number 2 bytes ≡ 65535
  pub counts : CountsBoards bytes

-- behind the tests of the header; bytes may follow the last board
unfoldable pub contents_at : List ℕ → Result Contents WorldError
contents_at bytes = do
  others ← counted 100 TooManyBoards (integer_at bytes 2)
  boards ← items_at (next_board_at (others + 1)) (others + 1) [] (drop 512 bytes)
  Ok (record { header = header_at (others + 1) bytes; boards = boards })

-- the world that bytes spell, or the first fault
unfoldable pub world_at : List ℕ → Result Contents WorldError
world_at bytes =
    if nat_lt (length bytes) 2 then Err Truncated else
    if not (little_number 2 bytes == 65535) then Err NotZzt else
    if nat_lt (length bytes) 512 then Err Truncated else contents_at bytes
