-- Blocks of runs: the runs of a text, in order, in lists of which each is short.
use Rattle.std.specs.Prelude.{◌≤◌, ◌<◌, ℕ, zero, suc, ◌+◌, List, [], ◌∷◌, ◌++◌, length, map, take, vec_len, vec_capacity}
use Rattle.std.specs.List.{AllByRecursion}
use Rattle.zed_code.specs.declared.run.Run.{Run}
use Rattle.zed_code.specs.declared.block.Block.{Block}
use Rattle.zed_code.specs.declared.block.Spot.{Spot}

-- the runs of each block
abbrev pub lists : List Block → List (List Run)
lists bs = map (λ b. b.runs.items) bs

-- lists of runs, joined
abbrev pub joined : List (List Run) → List Run
joined [] = []
joined (rs ∷ ls) = rs ++ joined ls

-- the runs of a text
abbrev pub runs_of : List Block → List Run
runs_of bs = joined (lists bs)

-- the list with a number, or none
abbrev pub list_at : ℕ → List (List Run) → List Run
list_at i [] = []
list_at zero (rs ∷ ls) = rs
list_at (suc i) (rs ∷ ls) = list_at i ls

-- how many runs stand before a place
abbrev pub before_spot : Spot → List (List Run) → ℕ
before_spot at ls = length (joined (take at.block ls)) + at.place

-- a place is in a list, with n runs from it on
pub record IsIn (at : Spot) (n : ℕ) (ls : List (List Run)) : Type 0 where
  pub block : at.block < length ls
  pub place : at.place + n ≤ length (list_at at.block ls)

-- no list is empty
abbrev pub NoneEmpty : List (List Run) → Type 0
NoneEmpty ls = AllByRecursion (λ rs. 0 < length rs) ls

-- a block has room for two more runs
abbrev pub HasRoom : Block → Type 0
HasRoom b = vec_len b.runs + 2 ≤ vec_capacity b.runs
