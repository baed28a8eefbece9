-- Where a byte of a text was found.
use Rattle.std.specs.Prelude.{◌≡◌, ℕ, true, List, Option, Some, None}
use Rattle.zed_code.specs.declared.run.Run.{Run}
use Rattle.zed_code.specs.declared.block.Spot.{Spot}
use Rattle.zed_code.specs.declared.search.Found.{Found}
use Rattle.zed_code.specs.Runs.{lasts, sought}
use Rattle.zed_code.specs.Blocks.{joined, before_spot, IsIn}

-- a byte that was found, if one was: there stands the first run that has it or later ones of its insertion
abbrev pub IsFound : Option Found → List (List Run) → Type 0
IsFound None ls = Unit {0}
IsFound (Some f) ls = IsIn f.at 1 ls × (before_spot f.at ls ≡ sought f.id.name.stamp f.id.name.index (joined ls))

-- a run is there that is the first of its insertion, so each of its bytes is found there
pub record StandsAt (run : Run) (at : Spot) (ls : List (List Run)) : Type 0 where
  pub within : IsIn at 1 ls
  pub first : (n : ℕ) → lasts run.stamp n run ≡ true → before_spot at ls ≡ sought run.stamp n (joined ls)
