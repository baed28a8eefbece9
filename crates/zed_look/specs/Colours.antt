-- The sixteen colours.
use Rattle.std.specs.Prelude.{ℕ, ◌%◌, ◌/◌, Bool, ◌==◌, nat_le, if◌then◌else◌, List, codes}

-- the colour of a character: black, blue, green, cyan, red, purple, brown and grey, and the same in bright
abbrev pub ink : ℕ → ℕ
ink attribute = attribute % 16

-- the colour of a background: one of the first eight
abbrev pub paper : ℕ → ℕ
paper attribute = attribute / 16 % 8

-- whether a character blinks
abbrev pub blinks : ℕ → Bool
blinks attribute = nat_le 128 attribute

-- the number of one of the first eight colours to a terminal, which counts red, green and blue as 1, 2 and 4
abbrev pub hue : ℕ → ℕ
hue c = if c == 0 then 0 else if c == 1 then 4 else if c == 2 then 2 else if c == 3 then 6 else if c == 4 then 1 else if c == 5 then 5 else if c == 6 then 3 else 7

-- a colour as SVG has it
abbrev pub rgb : ℕ → List ℕ
rgb c =
    if c == 0 then codes "#000000" else
    if c == 1 then codes "#0000aa" else
    if c == 2 then codes "#00aa00" else
    if c == 3 then codes "#00aaaa" else
    if c == 4 then codes "#aa0000" else
    if c == 5 then codes "#aa00aa" else
    if c == 6 then codes "#aa5500" else
    if c == 7 then codes "#aaaaaa" else
    if c == 8 then codes "#555555" else
    if c == 9 then codes "#5555ff" else
    if c == 10 then codes "#55ff55" else
    if c == 11 then codes "#55ffff" else
    if c == 12 then codes "#ff5555" else
    if c == 13 then codes "#ff55ff" else
    if c == 14 then codes "#ffff55" else codes "#ffffff"
