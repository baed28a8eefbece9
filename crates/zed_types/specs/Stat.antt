-- The registers of a stat: the place of each among those of its kind, and its number in an edit file.
use Rattle.std.specs.Prelude.{ℕ, ◌==◌, Option, Some, None, [], ◌∷◌}
use Rattle.std.specs.List.{find}
use Rattle.zed_types.specs.declared.stat_field.StatByte.{StatByte}
use Rattle.zed_types.specs.declared.stat_field.StatByte.TheVariants.{X, Y, P1, P2, UnderElement, UnderColour}
use Rattle.zed_types.specs.declared.stat_field.StatNumber.{StatNumber}
use Rattle.zed_types.specs.declared.stat_field.StatNumber.TheVariants.{StepX, StepY, Cycle, Position}

-- the place of a byte of a stat among the bytes of a stat
abbrev pub stat_byte_index : StatByte → ℕ
stat_byte_index X = 0
stat_byte_index Y = 1
stat_byte_index P1 = 2
stat_byte_index P2 = 3
stat_byte_index UnderElement = 4
stat_byte_index UnderColour = 5

-- the number of a byte of a stat in an edit file
abbrev pub stat_byte_field : StatByte → ℕ
stat_byte_field X = 0
stat_byte_field Y = 1
stat_byte_field P1 = 6
stat_byte_field P2 = 7
stat_byte_field UnderElement = 11
stat_byte_field UnderColour = 12

-- the byte of a stat with a number in an edit file
abbrev pub stat_byte_of_field : ℕ → Option StatByte
stat_byte_of_field n = find (λ k. n == stat_byte_field k) (X ∷ Y ∷ P1 ∷ P2 ∷ UnderElement ∷ UnderColour ∷ [])

-- the place of a number of a stat among those that a new stat is given; its position is none of them
abbrev pub stat_number_index : StatNumber → Option ℕ
stat_number_index StepX = Some 0
stat_number_index StepY = Some 1
stat_number_index Cycle = Some 2
stat_number_index Position = None

-- the number of a number of a stat in an edit file
abbrev pub stat_number_field : StatNumber → ℕ
stat_number_field StepX = 2
stat_number_field StepY = 3
stat_number_field Cycle = 4
stat_number_field Position = 5

-- the number of a stat with a number in an edit file
abbrev pub stat_number_of_field : ℕ → Option StatNumber
stat_number_of_field n = find (λ k. n == stat_number_field k) (StepX ∷ StepY ∷ Cycle ∷ Position ∷ [])
