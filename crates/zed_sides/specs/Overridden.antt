-- Whose value of a register doesn't show.
use Rattle.std.specs.Prelude.{Bool, true, false, ◌≡◌, ◌≢◌, not, ◌&&◌, Option, Some, None, option_map}
use Rattle.zed_sides.specs.declared.side.Loss.{Loss}
use Rattle.zed_sides.specs.declared.side.Loss.TheVariants.{Mine, Theirs, Both}
use Rattle.zed_sides.specs.declared.side.Overridden.{Overridden}
use Rattle.zed_sides.specs.declared.side.Side.{Side}
use Rattle.zed_sides.specs.declared.side.Side.TheVariants as side
use Rattle.zed_sides.specs.Readings.{is_overridden}

-- the other side
abbrev pub other_of : Side → Side
other_of side.Mine = side.Theirs
other_of side.Theirs = side.Mine

-- whose value doesn't show, by whether mine and theirs are overridden
abbrev pub loss_of : Bool → Bool → Option Loss
loss_of true true = Some Both
loss_of true false = Some Mine
loss_of false true = Some Theirs
loss_of false false = None

-- which side shows what the union shows, by whether mine and theirs do
abbrev pub shown_of : Bool → Bool → Option Side
shown_of mine true = Some side.Theirs
shown_of true false = Some side.Mine
shown_of false false = None

-- a loss in a register that shows what this side shows
abbrev pub with_loss : Option Side → Loss → Overridden
with_loss shown lost = record { lost = lost; shown = shown }

-- what is overridden of a register, by a test of values and by what the base, both sides and the union show
abbrev pub overridden : {V : Type 0} → (V → V → Bool) → V → V → V → V → Option Overridden
overridden same base mine theirs union =
    option_map (with_loss (shown_of (same union mine) (same union theirs)))
    (loss_of (is_overridden same base mine union) (is_overridden same base theirs union))
