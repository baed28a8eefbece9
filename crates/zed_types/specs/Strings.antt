-- Which settings have the bytes of a string, whose copies take memory.
use Rattle.std.specs.Prelude.{ℕ, nat_lt, Bool, false, List, length}
use Rattle.zed_types.specs.declared.header.HeaderSetting.{HeaderSetting}
use Rattle.zed_types.specs.declared.header.HeaderSetting.TheVariants.{WorldName, Flag as FlagSetting}
use Rattle.zed_types.specs.declared.property.BoardSetting.{BoardSetting}
use Rattle.zed_types.specs.declared.property.BoardSetting.TheVariants.{Text as TextProperty}

-- whether a string has a byte
abbrev pub has_bytes : List ℕ → Bool
has_bytes s = nat_lt 0 (length s)

-- whether a header register is given a string that has a byte
abbrev pub header_has_string : HeaderSetting → Bool
header_has_string (WorldName s) = has_bytes s
header_has_string (FlagSetting k s) = has_bytes s
header_has_string _ = false

-- whether a board's register is given a string that has a byte
abbrev pub board_has_string : BoardSetting → Bool
board_has_string (TextProperty f s) = has_bytes s
board_has_string _ = false
