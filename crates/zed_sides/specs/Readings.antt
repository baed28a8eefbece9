-- What becomes of what a side made of a register.
use Rattle.std.specs.Prelude.{◌≡◌, ◌≢◌, Bool, not, ◌&&◌}

-- whether a side changed a value, and the union shows another one, by a test of values
abbrev pub is_overridden : {V : Type 0} → (V → V → Bool) → V → V → V → Bool
is_overridden same base own union = not (same own base) && not (same union own)

-- what a side changed shows in the union
abbrev pub Shows : {V : Type 0} → V → V → V → Type 0
Shows base own union = own ≢ base → union ≡ own

-- so it is with both sides
abbrev pub BothShow : {V : Type 0} → V → V → V → V → Type 0
BothShow base mine theirs union = Shows base mine union × Shows base theirs union
