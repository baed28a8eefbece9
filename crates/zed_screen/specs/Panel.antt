-- What is written beside a board in play.
use Rattle.std.specs.Prelude.{ℕ, ℤ, pos, negsuc, suc, ◌+◌, ◌-◌, ◌%◌, ◌/◌, ◌^◌, Bool, true, false, ◌&&◌, ◌||◌, ◌==◌, nat_le, nat_lt, if◌then◌else◌, List, codes, slice_index_or}
use Rattle.zed_play.specs.Playtest.{Playtest}
use Rattle.zed_screen.specs.declared.frame.Cell.{Cell}
use Rattle.zed_screen.specs.Picture.{scene_cell}

-- what a row is labelled with
abbrev pub label_of : ℕ → List ℕ
label_of row =
    if row == 0 then codes "Health" else
    if row == 1 then codes "Ammo" else
    if row == 2 then codes "Torches" else
    if row == 3 then codes "Gems" else
    if row == 4 then codes "Score" else codes "Tick"

-- the number that a row tells
abbrev pub value_of : ℕ → Playtest → ℤ
value_of row p =
    if row == 0 then p.game.scene.counters.health else
    if row == 1 then p.game.scene.counters.ammo else
    if row == 2 then p.game.scene.counters.torches else
    if row == 3 then p.game.scene.counters.gems else
    if row == 4 then p.game.scene.counters.score else pos p.tick

-- a number without its sign
abbrev pub size_of : ℤ → ℕ
size_of (pos n) = n
size_of (negsuc n) = suc n

-- whether a number has a minus sign
abbrev pub is_below_zero : ℤ → Bool
is_below_zero (pos n) = false
is_below_zero (negsuc n) = true

-- whether a number has a digit at the place k from the right
abbrev pub has_digit : ℕ → ℕ → Bool
has_digit n k = k == 0 || nat_le (10 ^ k) n

-- the byte at the place k from the right: a digit, the sign in front of the digits, or a space
abbrev pub figure : ℤ → ℕ → ℕ
figure z k =
    if has_digit (size_of z) k then 48 + size_of z / 10 ^ k % 10
    else if is_below_zero z && has_digit (size_of z) (k - 1) then 45 else 32

-- the byte at the place i of a line: a label in 8 places, and a value right in 6
abbrev pub panel_byte : List ℕ → ℤ → ℕ → ℕ
panel_byte label value i = if nat_lt i 8 then slice_index_or label i 32 else figure value (13 - i)

-- rows 0 to 5, columns 62 to 75
abbrev pub is_on_panel : ℕ → ℕ → Bool
is_on_panel column row = nat_le 62 column && nat_lt column 76 && nat_lt row 6

-- the place k of the screen, counted row by row
unfoldable pub play_cell : Playtest → ℕ → Cell
play_cell p k =
    if is_on_panel (k % 80) (k / 80)
    then record { character = panel_byte (label_of (k / 80)) (value_of (k / 80) p) (k % 80 - 62); attribute = 31 }
    else scene_cell p.game.scene k
