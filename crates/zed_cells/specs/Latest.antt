-- The latest of a set of writes, and that a register holds it whatever their order and repeats.
use Rattle.std.specs.Prelude.{◌≡◌, false, List, [], Option, Some, None}
use Rattle.std.specs.List.{AllByRecursion, Contains}
use Rattle.zed_types.specs.declared.written.Written.{Written}
use Rattle.zed_types.specs.Stamp.{before}
use Rattle.zed_types.specs.Register.{latest_of}

-- the latest of writes: none where there is none; else one of them that none of them is later than
abbrev pub IsLatest : {V : Type 0} → Option (Written V) → List (Written V) → Type 0
IsLatest None ws = ws ≡ []
IsLatest (Some k) ws = Contains ws k × AllByRecursion (λ w. before k.stamp w.stamp ≡ false) ws

-- two writes of one stamp are one: they come from one edit
abbrev pub StampsAgree : {V : Type 0} → List (Written V) → Type 0
StampsAgree {V} ws = (a b : Written V) → Contains ws a → Contains ws b → a.stamp ≡ b.stamp → a ≡ b

-- each write of the one list is in the other
abbrev pub HasAll : {V : Type 0} → List (Written V) → List (Written V) → Type 0
HasAll ws vs = AllByRecursion (Contains ws) vs

-- a register that took writes in any order holds the latest of them
abbrev pub LatestIsHeld : Type 0 → Type 0
LatestIsHeld V = (ws : List (Written V)) → IsLatest (latest_of None ws) ws

-- registers that took the same writes, in any order and with any repeats, hold the same
abbrev pub OrderIsForgotten : Type 0 → Type 0
OrderIsForgotten V =
    (ws vs : List (Written V))
    → StampsAgree ws
    → HasAll ws vs
    → HasAll vs ws
    → latest_of None ws ≡ latest_of None vs
