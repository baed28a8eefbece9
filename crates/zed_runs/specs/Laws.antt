-- What the laws on runs promise.
use Rattle.std.specs.Prelude.{◌≡◌, ℕ, List, ◌++◌, length, Some}
use Rattle.zed_types.specs.declared.tile.Tile.{Tile}
use Rattle.zed_types.specs.Limits.{table_tiles}
use Rattle.zed_runs.specs.Runs.{Runs, greedy}
use Rattle.zed_runs.specs.Reading.{tiles_at}

-- whatever follows it, the greedy text of a board is read as its tiles
abbrev pub GreedyIsRead : Type 0
GreedyIsRead =
    (tiles : List Tile) (rest : List ℕ) → length tiles ≡ table_tiles → tiles_at table_tiles (greedy tiles ++ rest) ≡ Some (tiles, rest)

-- of two texts of runs with something behind them that are equal, the texts are equal, and so are their tiles
abbrev pub NoRunsBeginOthers : Type 0
NoRunsBeginOthers =
    (tiles others : List Tile) (a b x y : List ℕ) → Runs tiles a → Runs others b → a ++ x ≡ b ++ y → (a ≡ b) × (tiles ≡ others)

-- what is read is a whole board
abbrev pub TilesReadAreWhole : Type 0
TilesReadAreWhole = (bytes rest : List ℕ) (tiles : List Tile) → tiles_at table_tiles bytes ≡ Some (tiles, rest) → length tiles ≡ table_tiles

-- what is read is spelled by a text of runs in front of what is left
abbrev pub TilesReadAreRuns : Type 0
TilesReadAreRuns =
    (bytes rest : List ℕ) (tiles : List Tile) → tiles_at table_tiles bytes ≡ Some (tiles, rest)
    → (front : List ℕ) × Runs tiles front × (bytes ≡ front ++ rest)

-- a text of runs is read as what it stands for, whatever follows it
abbrev pub RunsAreRead : Type 0
RunsAreRead = (front rest : List ℕ) (tiles : List Tile) → Runs tiles front → tiles_at table_tiles (front ++ rest) ≡ Some (tiles, rest)
