-- The two ends of a link, and how its calls change them.
use Rattle.std.specs.Prelude.{◌≡◌, ◌≤◌, ◌⊎◌, ℕ, Bool, false, List, [], ◌++◌, length, Option, Some, None, IfSome}

-- what a link promises of its reads: whether none of them ever fails; and its pace: so many bytes at least by a read, unless fewer fill the room
-- for them, or fewer are left
pub record Promise : Type 0 where
  pub unfailing : Bool
  pub pace : ℕ

-- the bytes left to read, those that the link took, and what it promises
pub record LinkEnds : Type 0 where
  pub left : List ℕ
  pub taken : List ℕ
  pub promise : Promise

-- a link that told its ends still does, and they are so related to what they were; of one that tells none nothing is said
abbrev pub Changed : (LinkEnds → LinkEnds → Type 0) → Option LinkEnds → Option LinkEnds → Type 0
Changed R None new = Unit {0}
Changed R (Some t) new = (u : LinkEnds) × R t u × (new ≡ Some u)

-- the bytes were handed over, and no others
abbrev pub HandedOver : List ℕ → LinkEnds → LinkEnds → Type 0
HandedOver bytes t u = (t.left ≡ bytes ++ u.left) × (u.taken ≡ t.taken) × (u.promise ≡ t.promise)

-- bytes were handed over, and nothing is left
abbrev pub HandedAll : List ℕ → LinkEnds → LinkEnds → Type 0
HandedAll bytes t u = HandedOver bytes t u × (u.left ≡ [])

-- the bytes were handed over, and then a read failed of a link that may fail
abbrev pub FailedBehind : List ℕ → LinkEnds → LinkEnds → Type 0
FailedBehind bytes t u = HandedOver bytes t u × (t.promise.unfailing ≡ false)

-- the bytes were taken, and no others
abbrev pub Took : List ℕ → LinkEnds → LinkEnds → Type 0
Took bytes t u = (u.taken ≡ t.taken ++ bytes) × (u.left ≡ t.left) × (u.promise ≡ t.promise)

-- a write failed: a front of the bytes was taken
abbrev pub TookFront : List ℕ → LinkEnds → LinkEnds → Type 0
TookFront bytes t u = (part : List ℕ) × (rest : List ℕ) × (bytes ≡ part ++ rest) × Took part t u

-- a read of n bytes with so much room kept the pace of its link, if that is told: it filled the room, or handed over all that were left, if it
-- handed over fewer
abbrev pub KeepsPace : ℕ → ℕ → Option LinkEnds → Type 0
KeepsPace n room link = IfSome link (λ t. (t.promise.pace ≤ n) ⊎ (n ≡ room) ⊎ (n ≡ length t.left))

-- the link hands over nothing more
abbrev pub AtItsEnd : Option LinkEnds → Type 0
AtItsEnd None = Unit {0}
AtItsEnd (Some t) = t.left ≡ []
