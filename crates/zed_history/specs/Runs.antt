-- A history as runs: how it stands while edits come in any order.
use Rattle.std.specs.Prelude.{◌≡◌, ◌+◌, ◌++◌, ◌≤◌, ℕ, List, [], ◌∷◌, Option, None, length}
use Rattle.std.specs.List.{AllByRecursion}
use Rattle.zed_types.specs.declared.stamp.Stamp.{Stamp}
use Rattle.zed_op.specs.declared.op.Edit.{Edit}
use Rattle.zed_op.specs.Set.{IsRising, union}
use Rattle.zed_history.specs.Finding.{AreNew, edit_with, first_of}

-- the edits of runs together; where more than one has a stamp, the first has its own
abbrev pub joined : List (List Edit) → List Edit
joined [] = []
joined (r ∷ rs) = union r (joined rs)

-- the edit with a stamp in runs, if there is one
abbrev pub found_in : Stamp → List (List Edit) → Option Edit
found_in s [] = None
found_in s (r ∷ rs) = first_of (edit_with s r) (found_in s rs)

-- in each run stamps rise, and no stamp is in two
abbrev pub AreRuns : List (List Edit) → Type 0
AreRuns [] = Unit {0}
AreRuns (r ∷ rs) = IsRising r × AllByRecursion (AreNew r) rs × AreRuns rs

-- how many edits runs have
abbrev pub count_in : List (List Edit) → ℕ
count_in [] = 0
count_in (r ∷ rs) = length r + count_in rs

-- runs hold what others hold, in as many edits or fewer, and whatever runs stand apart from these stand apart from them
pub record SettleTo (old new : List (List Edit)) : Type 0 where
  pub runs : (others : List (List Edit)) → AreRuns (others ++ old) → AreRuns (others ++ new)
  pub found : (s : Stamp) → found_in s new ≡ found_in s old
  pub count : count_in new ≤ count_in old
