-- How the counts of a link change: of its reads, of calls that failed, of writes that took nothing.
use Rattle.std.specs.Prelude.{◌≡◌, ◌+◌, ◌≤◌, ◌⊎◌, ◌==◌, ℕ, Bool, false, List, [], ◌∷◌, Result, Ok, Err}
use Rattle.zed_host.specs.Counting.{Rose, most_counted}

-- so many were counted: never more, and all of them where the count has room
abbrev pub Counted : ℕ → ℕ → ℕ → Type 0
Counted n old new = (new ≤ old + n) × (old + n ≤ most_counted → new ≡ old + n)

-- whether a write of some bytes took none of them
abbrev pub takes_none : {E : Type 0} → List ℕ → Result ℕ E → Bool
takes_none [] r = false
takes_none (b ∷ bytes) (Ok n) = n == 0
takes_none (b ∷ bytes) (Err e) = false

-- one of the counts of failed calls and of writes that took nothing rose, and the other stayed
abbrev pub Faulted : ℕ → ℕ → ℕ → ℕ → Type 0
Faulted failed failed' stalls stalls' =
    (Rose failed failed' × (stalls' ≡ stalls)) ⊎ ((failed' ≡ failed) × Rose stalls stalls')
