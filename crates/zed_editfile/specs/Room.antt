-- What a vector with room for a text is told, and what it is once the text stands in it.
use Rattle.std.specs.Prelude.{◌≡◌, ◌≤◌, ℕ, ◌+◌, List, ◌++◌, length, Vec, vec_len, vec_capacity}

-- a vector has room for a text
abbrev pub HasRoom : {Z : Type 0} → List ℕ → Vec ℕ Z → Type 0
HasRoom text out = vec_len out + length text ≤ vec_capacity out

-- a text was appended to a vector, which has no less capacity
abbrev pub Appends : {Z : Type 0} → List ℕ → Vec ℕ Z → Vec ℕ Z → Type 0
Appends text old new =
    (new.items ≡ old.items ++ text) × (vec_len new ≡ vec_len old + length text) × (vec_capacity old ≤ vec_capacity new)
