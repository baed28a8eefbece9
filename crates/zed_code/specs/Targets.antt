-- Where a run goes.
use Rattle.std.specs.Prelude.{◌≡◌, ◌<◌, ℕ, min, List, ◌∷◌, drop, Option, Some, None}
use Rattle.zed_code.specs.declared.run.Run.{Run}
use Rattle.zed_code.specs.declared.block.Cut.{Cut}
use Rattle.zed_code.specs.declared.insertion.Target.{Target}
use Rattle.zed_code.specs.Blocks.{joined, before_spot, IsIn}

-- how many bytes of the run that is cut, if one is, stand in front
abbrev pub cut_bytes : Option Cut → ℕ
cut_bytes None = 0
cut_bytes (Some c) = c.bytes

-- how many runs stand between a place and what is put there: the front of the run that is cut, if one is
abbrev pub fronts : Option Cut → ℕ
fronts None = 0
fronts (Some c) = 1

-- the run that is cut, if one is, is the first, and has bytes in front
abbrev pub IsCut : Option Cut → List Run → Type 0
IsCut None rs = Unit {0}
IsCut (Some c) rs = (0 < c.bytes) × ((r : Run) (qs : List Run) → rs ≡ r ∷ qs → r ≡ c.there)

-- a run can be put there: a run that is cut is there, and is cut within
pub record IsTarget (aim : Target) (ls : List (List Run)) : Type 0 where
  pub within : IsIn aim.at (min (cut_bytes aim.cut) 1) ls
  pub cut : (r : Run) (rs : List Run) → drop (before_spot aim.at ls) (joined ls) ≡ r ∷ rs → cut_bytes aim.cut < r.len
  pub there : IsCut aim.cut (drop (before_spot aim.at ls) (joined ls))
