-- What sources tell of what comes from them, and of calls that fail.
use Rattle.std.specs.Prelude.{◌≡◌, ◌⊎◌, ◌+◌, ◌≤◌, ℕ, Bool, true, false, List, [], ◌∷◌, Option, Some, None, Result, Ok, Err, IfSome, option_map}
use Rattle.zed_host.specs.Counting.{Rose, most_counted}

-- the first of these, if there is one
abbrev pub first_of : {X : Type 0} → List X → Option X
first_of [] = None
first_of (x ∷ xs) = Some x

-- what is behind the first
abbrev pub behind_first : {X : Type 0} → List X → List X
behind_first [] = []
behind_first (x ∷ xs) = xs

-- what is left without the first, if it is told
abbrev pub without_first : {X : Type 0} → Option (List X) → Option (List X)
without_first = option_map behind_first

-- the first that is left is taken, or none is left
abbrev pub Takes : {X : Type 0} → Option X → Option (List X) → Option (List X) → Type 0
Takes taken old new = IfSome old (λ told. taken ≡ first_of told) × (new ≡ without_first old)

-- whether the next call fails, where these of those to come do
abbrev pub next_fails : List Bool → Bool
next_fails [] = false
next_fails (failing ∷ later) = failing

-- one call of a device was made, which failed or passed as that foretold, if it did: the rest is still to come
abbrev pub Foretold : Bool → Option (List Bool) → Option (List Bool) → Type 0
Foretold failing old new = IfSome old (λ calls. failing ≡ next_fails calls) × (new ≡ option_map behind_first old)

-- whether a byte came of a source
abbrev pub is_byte : {E : Type 0} → Result (Option ℕ) E → Bool
is_byte (Ok (Some byte)) = true
is_byte (Ok None) = false
is_byte (Err e) = false

-- at least so many were counted, where the count has room
abbrev pub CountedMany : ℕ → ℕ → ℕ → Type 0
CountedMany n old new = (old ≤ new) × (old + n ≤ most_counted → old + n ≤ new)

-- so many bytes that come to nothing are a failure
abbrev pub most_idle : ℕ
most_idle = 1048576

-- why what is typed fails: a call of the source of bytes failed; or that many bytes came. These are its counts of bytes that came, before and
-- behind, and of calls that failed
abbrev pub TypingFails : ℕ → ℕ → ℕ → ℕ → Type 0
TypingFails came came_then failures failures_then =
    Rose failures failures_then ⊎ (CountedMany most_idle came came_then × (failures_then ≡ failures))
