-- How a line of a scroll looks in a window of 49 columns, column by column.
use Rattle.std.specs.Prelude.{ℕ, ◌+◌, ◌-◌, ◌/◌, Bool, ◌==◌, nat_lt, if◌then◌else◌, List, ◌∷◌, ◌++◌, [], codes, drop, length, slice_get, Option, Some, None}
use Rattle.zed_oop_syntax.specs.Scroll.{is_centred, is_choice, link_text}
use Rattle.zed_look.specs.declared.look.Spot.{Spot}

-- a character in a colour
abbrev pub spot : ℕ → ℕ → Spot
spot attribute character = record { character = character; attribute = attribute }

-- a character of a text, if there is one, or what is behind it
abbrev pub or_behind : ℕ → Option ℕ → Spot → Spot
or_behind attribute (Some character) behind = spot attribute character
or_behind attribute None behind = behind

-- a text from a column on, over what is behind it
unfoldable pub over : ℕ → ℕ → List ℕ → ℕ → Spot → Spot
over first attribute text column behind =
    if nat_lt column first then behind else or_behind attribute (slice_get text (column - first)) behind

-- where a text of so many characters begins that is centred
abbrev pub centred_from : ℕ → ℕ
centred_from count = (50 - count) / 2

-- behind a line there are spaces, yellow on blue (30); behind the one that the arrows point at (175 and 174), light red (28)
unfoldable pub ground : Bool → ℕ → Spot
ground is_chosen column =
    if is_chosen then spot 28 (if column == 2 then 175 else if column == 46 then 174 else 32) else spot 30 32

-- what is behind the text of a choice: in column 6 an arrow (16), pink on blue (29)
unfoldable pub marked : ℕ → Spot → Spot
marked column behind = if column == 6 then spot 29 16 else behind

-- a line in a column: centred in white (31) without its `$`, which counts; or the text of a choice in white behind an arrow; or as it was said, yellow
unfoldable pub line_spot : List ℕ → ℕ → Spot → Spot
line_spot line column behind =
    if is_centred line then over (centred_from (length line)) 31 (drop 1 line) column behind else
    if is_choice line then over 9 31 (link_text line) column (marked column behind) else
    over 4 30 line column behind
