-- The registers of a header: the place of each among those of its kind, and its number in an edit file.
use Rattle.std.specs.Prelude.{ℕ, ◌==◌, Option, [], ◌∷◌}
use Rattle.std.specs.List.{find}
use Rattle.zed_types.specs.declared.header.HeaderNumber.{HeaderNumber}
use Rattle.zed_types.specs.declared.header.HeaderNumber.TheVariants.{Ammo, Gems, Health, Torches, TorchTicks, EnergizerTicks, Score, TimePassed, Hundredths}
use Rattle.zed_types.specs.declared.header.KeyColour.{KeyColour}
use Rattle.zed_types.specs.declared.header.KeyColour.TheVariants.{Blue, Green, Cyan, Red, Purple, Yellow, White}
use Rattle.zed_types.specs.declared.header.FlagSlot.{FlagSlot}
use Rattle.zed_types.specs.declared.header.FlagSlot.TheVariants.{First, Second, Third, Fourth, Fifth, Sixth, Seventh, Eighth, Ninth, Tenth}

-- which of the seven keys has a colour
abbrev pub key_index : KeyColour → ℕ
key_index Blue = 0
key_index Green = 1
key_index Cyan = 2
key_index Red = 3
key_index Purple = 4
key_index Yellow = 5
key_index White = 6

-- which of the ten flags is in a slot
abbrev pub flag_index : FlagSlot → ℕ
flag_index First = 0
flag_index Second = 1
flag_index Third = 2
flag_index Fourth = 3
flag_index Fifth = 4
flag_index Sixth = 5
flag_index Seventh = 6
flag_index Eighth = 7
flag_index Ninth = 8
flag_index Tenth = 9

-- the place of a number of a header among the numbers of a header, which is its number in an edit file
abbrev pub header_number_index : HeaderNumber → ℕ
header_number_index Ammo = 0
header_number_index Gems = 1
header_number_index Health = 2
header_number_index Torches = 3
header_number_index TorchTicks = 4
header_number_index EnergizerTicks = 5
header_number_index Score = 6
header_number_index TimePassed = 7
header_number_index Hundredths = 8

-- the number of a header with a number in an edit file
abbrev pub header_number_of_field : ℕ → Option HeaderNumber
header_number_of_field n = find (λ k. n == header_number_index k) (Ammo ∷ Gems ∷ Health ∷ Torches ∷ TorchTicks ∷ EnergizerTicks ∷ Score ∷ TimePassed ∷ Hundredths ∷ [])
