-- How the counts of a device change: of calls that failed, and of those that failed by a fault.
use Rattle.std.specs.Prelude.{◌≡◌, ◌<◌, ◌≤◌, ℕ, Bool, true, false}

-- the greatest count, at which it stays
abbrev pub most_counted : ℕ
most_counted = 18446744073709551615

-- the count rose, where it can
abbrev pub Rose : ℕ → ℕ → Type 0
Rose old new = (old ≤ new) × (old < most_counted → old < new)

-- a call that counts raises the count, and another leaves it
abbrev pub Counts : Bool → ℕ → ℕ → Type 0
Counts false old new = new ≡ old
Counts true old new = Rose old new

-- nothing failed between the two counts
abbrev pub NothingFailed : ℕ → ℕ → Type 0
NothingFailed old new = (new ≡ old) × (old < most_counted)
