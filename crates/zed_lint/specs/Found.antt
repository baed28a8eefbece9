-- Lists of what is found.
use Rattle.std.specs.Prelude.{ℕ, ◌+◌, ◌<◌, List, [], ◌∷◌, ◌++◌, length, Option, Some, None}
use Rattle.zed_lint.specs.declared.finding.Finding.{Finding}
use Rattle.zed_lint.specs.declared.finding.Spot.{Spot}
use Rattle.zed_lint.specs.declared.finding.What.{What}

-- what was found at a spot, if something was
abbrev pub noted : Spot → Option What → List Finding
noted spot None = []
noted spot (Some what) = record { spot = spot; what = what } ∷ []

-- what comes of the number and the value of each member, numbered from i
abbrev pub each_from : {X Y : Type 0} → (ℕ → X → List Y) → ℕ → List X → List Y
each_from find i [] = []
each_from find i (x ∷ xs) = find i x ++ each_from find (i + 1) xs

-- memory may be wanted: something is found, or there are bytes of programs to be read
abbrev pub Wants : List Finding → List ℕ → Type 0
Wants found read = 0 < length found + length read
