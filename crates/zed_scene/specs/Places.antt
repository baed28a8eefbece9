-- Places, and where steps lead.
use Rattle.std.specs.Prelude.{ℕ, ℤ, pos, negsuc, ◌+ℤ◌, ◌-◌, suc, zero, Bool, ◌&&◌, nat_le, nat_lt, ◌==◌, if◌then◌else◌, Option, Some, None, option_and_then}
use Rattle.zed_types.specs.declared.tile.Place.{Place}
use Rattle.zed_types.specs.Table.{has_tile}
use Rattle.zed_scene.specs.declared.step.Step.{Step}

infixl 10 ◌>>=◌
-- what follows of a value, if there is one
abbrev pub ◌>>=◌ : {A B : Type 0} → Option A → (A → Option B) → Option B
o >>= f = option_and_then f o

-- whether a place is in the table
abbrev pub is_on_board : Place → Bool
is_on_board p = has_tile p.x p.y

-- a number if it is 1 to `most`
abbrev pub up_to : ℕ → ℤ → Option ℕ
up_to most (pos k) = if nat_le 1 k && nat_le k most then Some k else None
up_to most (negsuc k) = None

-- the column or row that a step leads to; sums are not wrapped
abbrev pub moved : ℕ → ℕ → ℤ → Option ℕ
moved most from by = up_to most (pos from +ℤ by)

-- the place that a step leads to, none where that is outside of the table
abbrev pub ahead : Place → Step → Option Place
ahead p d = do
  x ← moved 60 p.x d.x
  y ← moved 25 p.y d.y
  Some (record { x = x; y = y })

-- with the other sign; -32,768 becomes 32,767
abbrev pub negated : ℤ → ℤ
negated (pos zero) = pos zero
negated (pos (suc k)) = negsuc k
negated (negsuc k) = if k == 32767 then pos 32767 else pos (suc k)

-- a step a quarter to the right: north becomes east
abbrev pub clockwise : Step → Step
clockwise d = record { x = negated d.y; y = d.x }

-- a step a quarter to the left: north becomes west
abbrev pub counter_clockwise : Step → Step
counter_clockwise d = record { x = d.y; y = negated d.x }

-- a step turned round: north becomes south
abbrev pub opposite : Step → Step
opposite d = record { x = negated d.x; y = negated d.y }

-- the sign of `to` less `from`
abbrev pub sign_of : ℕ → ℕ → ℤ
sign_of to from = if nat_lt from to then pos 1 else if nat_lt to from then negsuc 0 else pos 0

-- how far apart two columns are, or two rows
abbrev pub apart : ℕ → ℕ → ℕ
apart a b = if nat_lt a b then b - a else a - b
