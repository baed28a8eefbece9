-- The calls of a host, one after the other.
use Rattle.std.specs.Prelude.{◌≡◌, ℕ, Bool, true, false, List, [], ◌∷◌, ◌++◌, map}

-- what a host is asked for: the file of a name, to put one there, to print, or to write this to the standard error
pub data Ask : Type 0 where
  Reading : (name : List ℕ) → Ask
  Writing : (name : List ℕ) → Ask
  Printing : Ask
  Complaining : (text : List ℕ) → Ask

-- a call of a host, and whether it failed: for want of the file, or by a fault of the device
pub record Call : Type 0 where
  pub ask : Ask
  pub failed : Bool

-- a call for this, which failed or not
abbrev pub call : Ask → Bool → Call
call ask failed = record { ask = ask; failed = failed }

-- a call for each of these, none of which failed
abbrev pub passed : List Ask → List Call
passed = map (λ ask. call ask false)

-- the same, and then one for this, which failed
abbrev pub failed_at : List Ask → Ask → List Call
failed_at asks ask = passed asks ++ call ask true ∷ []

-- these calls and no others lead from the one state of a host to the other
abbrev pub Leads : {H : Type 0} → (H → Call → H → Type 0) → List Call → H → H → Type 0
Leads called [] old new = new ≡ old
Leads called (c ∷ calls) old new = (mid : _) × called old c mid × Leads called calls mid new
