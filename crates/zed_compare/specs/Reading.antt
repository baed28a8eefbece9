-- What four worlds show in a register: that of the edits that both sides have, those of the sides, and that of their union.
use Rattle.std.specs.Prelude.{Bool, Option}
use Rattle.std.specs.Option.{option_eq}
use Rattle.zed_edit.specs.declared.plain.Plain.{Plain}
use Rattle.zed_laws.specs.Winners.{Register}
use Rattle.zed_sides.specs.declared.side.Overridden.{Overridden}
use Rattle.zed_sides.specs.Overridden.{overridden}
use Rattle.zed_join.specs.declared.sides.Views.{Views}

-- what is overridden of what is read so of each world, by a test of values
abbrev pub in_readings : {V : Type 0} → (V → V → Bool) → (Plain → V) → Views → Option Overridden
in_readings same read w = overridden same (read w.base) (read w.mine) (read w.theirs) (read w.union)

-- what is overridden of a register; where a thing isn't made it reads as none
abbrev pub in_register : {V : Type 0} → (V → V → Bool) → Register V → Views → Option Overridden
in_register same r w = in_readings (option_eq same) r.read w
