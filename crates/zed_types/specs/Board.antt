-- The registers of a board: the place of each among those of its kind, and its number in an edit file.
use Rattle.std.specs.Prelude.{ℕ, ◌+◌, ◌==◌, Option, [], ◌∷◌}
use Rattle.std.specs.List.{find}
use Rattle.zed_types.specs.declared.property.Side.{Side}
use Rattle.zed_types.specs.declared.property.Side.TheVariants.{North, South, West, East}
use Rattle.zed_types.specs.declared.property.BoardByte.{BoardByte}
use Rattle.zed_types.specs.declared.property.BoardByte.TheVariants.{MaxShots, StartX, StartY}
use Rattle.zed_types.specs.declared.property.BoardFlag.{BoardFlag}
use Rattle.zed_types.specs.declared.property.BoardFlag.TheVariants.{Dark, ReEnter}
use Rattle.zed_types.specs.declared.property.BoardText.{BoardText}
use Rattle.zed_types.specs.declared.property.BoardText.TheVariants.{Name, Message}

-- the place of an exit of a board among the exits of a board
abbrev pub side_index : Side → ℕ
side_index North = 0
side_index South = 1
side_index West = 2
side_index East = 3

-- the number of an exit of a board in an edit file
abbrev pub side_field : Side → ℕ
side_field k = 6 + side_index k

-- the exit of a board with a number in an edit file
abbrev pub side_of_field : ℕ → Option Side
side_of_field n = find (λ k. n == side_field k) (North ∷ South ∷ West ∷ East ∷ [])

-- the place of a byte of a board among the bytes of a board
abbrev pub board_byte_index : BoardByte → ℕ
board_byte_index MaxShots = 0
board_byte_index StartX = 1
board_byte_index StartY = 2

-- the number of a byte of a board in an edit file
abbrev pub board_byte_field : BoardByte → ℕ
board_byte_field MaxShots = 0
board_byte_field StartX = 3
board_byte_field StartY = 4

-- the byte of a board with a number in an edit file
abbrev pub board_byte_of_field : ℕ → Option BoardByte
board_byte_of_field n = find (λ k. n == board_byte_field k) (MaxShots ∷ StartX ∷ StartY ∷ [])

-- the place of a flag of a board among the flags of a board
abbrev pub board_flag_index : BoardFlag → ℕ
board_flag_index Dark = 0
board_flag_index ReEnter = 1

-- the number of a flag of a board in an edit file
abbrev pub board_flag_field : BoardFlag → ℕ
board_flag_field k = 1 + board_flag_index k

-- the flag of a board with a number in an edit file
abbrev pub board_flag_of_field : ℕ → Option BoardFlag
board_flag_of_field n = find (λ k. n == board_flag_field k) (Dark ∷ ReEnter ∷ [])

-- the place of a text of a board among the texts of a board
abbrev pub board_text_index : BoardText → ℕ
board_text_index Name = 0
board_text_index Message = 1

-- the number of a text of a board in an edit file
abbrev pub board_text_field : BoardText → ℕ
board_text_field k = 10 + board_text_index k

-- the text of a board with a number in an edit file
abbrev pub board_text_of_field : ℕ → Option BoardText
board_text_of_field n = find (λ k. n == board_text_field k) (Name ∷ Message ∷ [])
