-- The words of registers.
use Rattle.std.specs.Prelude.{ℕ, List, codes}
use Rattle.zed_types.specs.declared.header.HeaderNumber.{HeaderNumber}
use Rattle.zed_types.specs.declared.header.HeaderNumber.TheVariants.{Ammo, Gems, Health, Torches, TorchTicks, EnergizerTicks, Score, TimePassed, Hundredths}
use Rattle.zed_types.specs.declared.header.KeyColour.{KeyColour}
use Rattle.zed_types.specs.declared.header.KeyColour.TheVariants.{Blue, Green, Cyan, Red, Purple, Yellow, White}
use Rattle.zed_types.specs.declared.property.Side.{Side}
use Rattle.zed_types.specs.declared.property.Side.TheVariants.{North, South, West, East}
use Rattle.zed_types.specs.declared.property.BoardByte.{BoardByte}
use Rattle.zed_types.specs.declared.property.BoardByte.TheVariants.{MaxShots, StartX, StartY}
use Rattle.zed_types.specs.declared.property.BoardFlag.{BoardFlag}
use Rattle.zed_types.specs.declared.property.BoardFlag.TheVariants.{Dark, ReEnter}
use Rattle.zed_types.specs.declared.property.BoardText.{BoardText}
use Rattle.zed_types.specs.declared.property.BoardText.TheVariants.{Name, Message}
use Rattle.zed_types.specs.declared.stat_field.StatByte.{StatByte}
use Rattle.zed_types.specs.declared.stat_field.StatByte.TheVariants.{X, Y, P1, P2, UnderElement, UnderColour}
use Rattle.zed_types.specs.declared.stat_field.StatNumber.{StatNumber}
use Rattle.zed_types.specs.declared.stat_field.StatNumber.TheVariants.{StepX, StepY, Cycle, Position}

-- a number of a header
abbrev pub header_number_word : HeaderNumber → List ℕ
header_number_word Ammo = codes "ammo "
header_number_word Gems = codes "gems "
header_number_word Health = codes "health "
header_number_word Torches = codes "torches "
header_number_word TorchTicks = codes "torch ticks "
header_number_word EnergizerTicks = codes "energizer ticks "
header_number_word Score = codes "score "
header_number_word TimePassed = codes "time passed "
header_number_word Hundredths = codes "hundredths "

-- the colour of a key
abbrev pub key_word : KeyColour → List ℕ
key_word Blue = codes "blue "
key_word Green = codes "green "
key_word Cyan = codes "cyan "
key_word Red = codes "red "
key_word Purple = codes "purple "
key_word Yellow = codes "yellow "
key_word White = codes "white "

-- a side of a board
abbrev pub side_word : Side → List ℕ
side_word North = codes "north "
side_word South = codes "south "
side_word West = codes "west "
side_word East = codes "east "

-- a byte of a board
abbrev pub board_byte_word : BoardByte → List ℕ
board_byte_word MaxShots = codes "max shots "
board_byte_word StartX = codes "start x "
board_byte_word StartY = codes "start y "

-- a flag of a board
abbrev pub board_flag_word : BoardFlag → List ℕ
board_flag_word Dark = codes "dark "
board_flag_word ReEnter = codes "re-enter "

-- a string of a board
abbrev pub board_text_word : BoardText → List ℕ
board_text_word Name = codes "name "
board_text_word Message = codes "message "

-- a byte of a stat
abbrev pub stat_byte_word : StatByte → List ℕ
stat_byte_word X = codes "x "
stat_byte_word Y = codes "y "
stat_byte_word P1 = codes "p1 "
stat_byte_word P2 = codes "p2 "
stat_byte_word UnderElement = codes "under element "
stat_byte_word UnderColour = codes "under colour "

-- a number of a stat
abbrev pub stat_number_word : StatNumber → List ℕ
stat_number_word StepX = codes "step x "
stat_number_word StepY = codes "step y "
stat_number_word Cycle = codes "cycle "
stat_number_word Position = codes "position "
