-- The count of runs that were looked at. It stays at the greatest number that it has room for.
use Rattle.std.specs.Prelude.{◌≡◌, ◌≤◌, ◌<◌, ℕ, ◌+◌, min}

-- the greatest count, at which it stays
abbrev pub greatest : ℕ
greatest = 18446744073709551615

-- a count, after so many more
abbrev pub raised : ℕ → ℕ → ℕ
raised v n = min (v + n) greatest

-- at least so many more runs were looked at
abbrev pub LooksAtLeast : ℕ → ℕ → ℕ → Type 0
LooksAtLeast n old new = raised old n ≤ new

-- so many more runs were looked at: of n runs at most one more than n, and at least one; of none, none
abbrev pub LooksAtSome : ℕ → ℕ → ℕ → Type 0
LooksAtSome n old new = (k : ℕ) × (new ≡ raised old k) × (k ≤ n + min n 1) × (0 < n → 0 < k)
