-- What a terminal is told of a playtest.
use Rattle.std.specs.Prelude.{ℕ, ◌+◌, ◌-◌, ◌*◌, ◌/◌, ◌==◌, nat_le, if◌then◌else◌, List, [], ◌∷◌, ◌++◌, codes, Option, Some, None, drop, length, map, slice_get, take}
use Rattle.std.specs.List.{flat_map, range_with_len}
use Rattle.zed_types.specs.declared.tile.Place.{Place}
use Rattle.zed_scene.specs.declared.scroll.Scroll.{Scroll}
use Rattle.zed_scene.specs.declared.stat.Stat.{Stat}
use Rattle.zed_oop.specs.declared.choosing.Chosen.{Chosen}
use Rattle.zed_oop.specs.declared.choosing.Chosen.TheVariants.{Sent, NoLabel, Gone, NoFile, NoChoice}
use Rattle.zed_play.specs.Playtest.{Playtest}
use Rattle.zed_screen.specs.declared.frame.Cell.{Cell}
use Rattle.zed_screen.specs.Panel.{play_cell}
use Rattle.zed_look.specs.declared.look.Spot.{Spot}
use Rattle.zed_scroll.specs.Text.{scroll_text}
use Rattle.zed_terminal.specs.declared.input.Size.{Size}
use Rattle.zed_terminal.specs.declared.overlay.Shown.{Shown}
use Rattle.zed_terminal.specs.Overlaid.{scrolls_of}
use Rattle.zed_look.specs.Coloured.{coloured_row}
use Rattle.zed_look.specs.Drawing.{played_at, row_of}
use Rattle.zed_look.specs.Glyphs.{glyph}

-- a cell of a frame
abbrev pub spot_of : Cell → Spot
spot_of cell = record { character = cell.character; attribute = cell.attribute }

-- what is shown of a playtest in a row and a column beside the board
abbrev pub spot_beside : Playtest → ℕ → ℕ → Spot
spot_beside p row column = spot_of (play_cell p (80 * row + column))

-- the 20 columns beside a row of the board
unfoldable pub beside : Playtest → ℕ → List Spot
beside p row = map (spot_beside p row) (range_with_len 60 20)

-- what a terminal of so many columns shows in a row from this column on: the board as ZZT shows it, and what is told beside it, which begins in the
-- first row that is shown
unfoldable pub stage_row : ℕ → ℕ → ℕ → Playtest → ℕ → List Spot
stage_row columns left first p row = take columns (drop left (row_of (played_at p) row ++ beside p (row - first)))

-- so many rows from this one on
unfoldable pub stage_rows : ℕ → ℕ → ℕ → ℕ → Playtest → List ℕ
stage_rows columns left first count p =
    flat_map (λ row. coloured_row None (stage_row columns left first p row)) (range_with_len first count)

-- how many rows of the board a terminal of so many rows shows: all 25, or what leaves room for a message and the keys, and at least one
abbrev pub rows_shown : ℕ → ℕ
rows_shown rows = if nat_le 27 rows then 25 else if nat_le 3 rows then rows - 2 else 1

-- how many columns a terminal has: 80 where it doesn't tell
abbrev pub columns_of : ℕ → ℕ
columns_of columns = if columns == 0 then 80 else columns

-- how many of them show the board: as many as it has
abbrev pub columns_shown : ℕ → ℕ
columns_shown columns = if nat_le 60 columns then 60 else columns

-- the place of a stat, counted from 0, in its column or its row
abbrev pub place_of : Option Stat → (Place → ℕ) → ℕ
place_of (Some s) way = way s.place - 1
place_of None way = 0

-- the row and the column of the player, who is the first stat
abbrev pub player_row : Playtest → ℕ
player_row p = place_of (slice_get p.game.scene.stats 0) (λ at. at.y)

abbrev pub player_column : Playtest → ℕ
player_column p = place_of (slice_get p.game.scene.stats 0) (λ at. at.x)

-- the first of so many that are shown of a whole: half of them before this one, as far as that goes
abbrev pub first_shown : ℕ → ℕ → ℕ → ℕ
first_shown whole count at = if nat_le at (count / 2) then 0 else if nat_le (at - count / 2) (whole - count) then at - count / 2 else whole - count

-- the first row and the first column that are shown
abbrev pub first_row : Size → Playtest → ℕ
first_row size p = first_shown 25 (rows_shown size.rows) (player_row p)

abbrev pub first_column : Size → Playtest → ℕ
first_column size p = first_shown 60 (columns_shown (columns_of size.columns)) (player_column p)

-- what clears the rest of a line, and ends it: escape (27), `[K`, and a line feed (10)
unfoldable pub line_end : List ℕ
line_end = 27 ∷ codes "[K" ++ 10 ∷ []

-- as much of a message as fits a line
abbrev pub message_line : ℕ → List ℕ → List ℕ
message_line columns message = flat_map glyph (take columns message) ++ line_end

-- the last n of some lines
abbrev pub last_of : ℕ → List (List ℕ) → List (List ℕ)
last_of n lines = drop (length lines - n) lines

-- what is told of a choice, if anything is
abbrev pub answer_to : Chosen → Option (List ℕ)
answer_to Sent = None
answer_to NoLabel = Some (codes "no program that this reaches has its label")
answer_to Gone = Some (codes "the one who said this is gone")
answer_to NoFile = Some (codes "this leads to a file, and there is none")
answer_to NoChoice = Some (codes "there is no such choice")

abbrev pub told : Option Chosen → Option (List ℕ)
told None = None
told (Some chosen) = answer_to chosen

-- a line more, if there is one
abbrev pub and_told : Option (List ℕ) → List (List ℕ) → List (List ℕ)
and_told None lines = lines
and_told (Some line) lines = lines ++ line ∷ []

-- the last n of the messages and of what is told of a choice behind them
abbrev pub told_lines : ℕ → ℕ → List (List ℕ) → Option Chosen → List ℕ
told_lines columns n messages said = flat_map (message_line columns) (last_of n (and_told (told said) messages))

-- how keys are typed where a scroll is open, or none is
abbrev pub keys_told : Option Shown → List ℕ
keys_told None = codes "arrows move, shift or w a s d shoot, space waits, q ends"
keys_told (Some s) = codes "arrows move, Enter chooses, Escape closes, q ends"

-- as much of that as fits a line; and what clears all behind it
unfoldable pub help : Option Shown → ℕ → List ℕ
help shown columns = take columns (keys_told shown) ++ 27 ∷ codes "[J"

-- to the upper left place, what a terminal of a size shows of a playtest: the rows and columns around the player, as many of the last message lines
-- as there is room for, and how keys are typed
unfoldable pub stage_text : Size → Option Shown → Option Chosen → Playtest → List ℕ
stage_text size shown said p =
    let columns = columns_of size.columns in
    27 ∷ codes "[H" ++ stage_rows columns (first_column size p) (first_row size p) (rows_shown size.rows) p
    ++ told_lines columns (size.rows - 1 - rows_shown size.rows) p.game.messages said ++ help shown columns

-- a scroll with this of its lines in the middle, if it is there
abbrev pub shown_text : Size → Option Scroll → ℕ → List ℕ
shown_text size None line = []
shown_text size (Some scroll) line = scroll_text size.rows (columns_of size.columns) scroll line

-- the scroll that is open, over that
abbrev pub open_text : Size → Option Shown → Playtest → List ℕ
open_text size None p = []
open_text size (Some s) p = shown_text size (slice_get (scrolls_of p) s.scroll) s.line
