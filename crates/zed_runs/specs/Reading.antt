-- What reading runs finds at the front of some bytes.
use Rattle.std.specs.Prelude.{ℕ, zero, suc, ◌-◌, min, List, [], ◌∷◌, ◌++◌, replicate, Option, Some, None}
use Rattle.zed_types.specs.declared.tile.Tile.{Tile}
use Rattle.zed_runs.specs.Runs.{tiles_of_count}

-- these tiles, and then what was found
abbrev pub followed_by : List Tile → Option (List Tile × List ℕ) → Option (List Tile × List ℕ)
followed_by tiles None = None
followed_by tiles (Some found) = Some (tiles ++ found.0, found.1)

-- So many tiles from the runs at the front, and what follows these runs; None where the runs end before. The last run may
-- stand for more. The law tiles_are_runs says what is found.
unfoldable pub tiles_at : ℕ → List ℕ → Option (List Tile × List ℕ)
tiles_at zero rest = Some ([], rest)
tiles_at (suc wanted) (count ∷ element ∷ colour ∷ rest) =
    followed_by (replicate (min (suc wanted) (tiles_of_count count)) (record { element = element; colour = colour })) (tiles_at (suc wanted - tiles_of_count count) rest)
tiles_at (suc wanted) rest = None
