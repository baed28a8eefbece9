-- Text that is UTF-8, of which ZZT shows other characters.
use Rattle.std.specs.List.{list_any}
use Rattle.std.specs.Prelude.{ℕ, Bool, not, ◌&&◌, nat_le, if◌then◌else◌, List, Option, Some, None}
use Rattle.std.specs.Str.{is_utf8 as is_utf8_text}
use Rattle.zed_lint.specs.declared.finding.What.{What}
use Rattle.zed_lint.specs.declared.finding.What.TheVariants.{Utf8Name, Utf8Program}

-- whether a byte is over 127, and in code page 437 no shade and no part of a box (176 to 223), since these make pairs that are UTF-8 by chance
abbrev pub tells_utf8 : ℕ → Bool
tells_utf8 b = nat_le 128 b && not (nat_le 176 b && nat_le b 223)

-- whether bytes are UTF-8, and one of them tells so
abbrev pub is_utf8 : List ℕ → Bool
is_utf8 bytes = list_any tells_utf8 bytes && is_utf8_text bytes

-- a name that is UTF-8
abbrev pub utf8_name : List ℕ → Option What
utf8_name name = if is_utf8 name then Some Utf8Name else None

-- a program that is UTF-8
abbrev pub utf8_program : List ℕ → Option What
utf8_program program = if is_utf8 program then Some Utf8Program else None
