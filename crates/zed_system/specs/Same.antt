-- Comparing what a reader has left with bytes.
use Rattle.std.specs.Prelude.{◌≡◌, ℕ, List, None, Option, Some, ⊤}

-- If a reader that had `old` left, and has `now`, has just these bytes left, then at first it had all of them.
abbrev pub MayEnd : Option (List ℕ) → Option (List ℕ) → List ℕ → List ℕ → Type 0
MayEnd None now left bytes = ⊤
MayEnd (Some xs) None left bytes = ⊥
MayEnd (Some xs) (Some ys) left bytes = ys ≡ left → xs ≡ bytes
