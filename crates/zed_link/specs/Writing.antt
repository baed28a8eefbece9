-- How the counts of a link's writes change.
use Rattle.std.specs.Prelude.{◌≡◌, ◌+◌, ◌≤◌, ℕ, Bool, true, false, List, [], ◌∷◌}
use Rattle.zed_host.specs.Counting.{Counts}
use Rattle.zed_link.specs.declared.writes.Writes.{Writes}
use Rattle.zed_link.specs.Counting.{Counted}

-- whether there are no bytes
abbrev pub is_nothing : List ℕ → Bool
is_nothing [] = true
is_nothing (b ∷ bytes) = false

-- a write of these bytes was counted, and as one of no bytes where it is
abbrev pub CountsWrite : List ℕ → Writes → Writes → Type 0
CountsWrite bytes old new = Counted 1 old.made new.made × Counts (is_nothing bytes) old.empty new.empty

-- at most so many writes were made, none of them of no bytes
abbrev pub WritesAtMost : ℕ → Writes → Writes → Type 0
WritesAtMost most old new = (new.made ≤ old.made + most) × (new.empty ≡ old.empty)
