-- The window of a scroll, place by place.
use Rattle.std.specs.Prelude.{ℕ, ◌+◌, ◌-◌, ◌/◌, ◌%◌, Bool, false, ◌&&◌, ◌==◌, nat_le, nat_lt, if◌then◌else◌, List, ◌∷◌, ◌++◌, [], codes, length, slice_get, Option, Some, None}
use Rattle.zed_scene.specs.declared.scroll.Scroll.{Scroll}
use Rattle.zed_oop_syntax.specs.Scroll.{is_choice}
use Rattle.zed_look.specs.declared.look.Spot.{Spot}
use Rattle.zed_scroll.specs.declared.frame.Window.{Window}
use Rattle.zed_scroll.specs.Lines.{centred_from, ground, line_spot, over, spot}

-- ---- where it stands

-- how many lines a terminal of so many rows shows: 15, or what leaves room for the frame and a row below it, and at least one
abbrev pub lines_on : ℕ → ℕ
lines_on rows = if nat_le 20 rows then 15 else if nat_le 6 rows then rows - 5 else 1

-- how many rows are above it: 3, if there is room
abbrev pub top_on : ℕ → ℕ
top_on rows = if nat_le 23 rows then 3 else rows - 20

-- how many columns are to the left of it: 5, if there is room
abbrev pub left_on : ℕ → ℕ
left_on columns = if nat_le 54 columns then 5 else columns - 49

-- the lesser of two numbers
abbrev pub at_most : ℕ → ℕ → ℕ
at_most most n = if nat_le n most then n else most

-- the window on a terminal of so many rows and columns: with its frame it has four rows more than lines, and 49 columns; what has no room isn't shown
abbrev pub window_on : ℕ → ℕ → Window
window_on rows columns =
    record {
      top = top_on rows;
      left = left_on columns;
      rows = at_most (rows - 1) (lines_on rows + 4);
      columns = at_most columns 49;
      lines = lines_on rows;
    }

-- ---- its frame, white on black (15)

-- two characters to the left, one for all of the middle, and two to the right
unfoldable pub edged : ℕ → ℕ → ℕ → ℕ → ℕ → ℕ → Spot
edged a b middle c d column =
    spot 15 (if column == 0 then a else if column == 1 then b else if column == 47 then c else if column == 48 then d else middle)

abbrev pub upper_edge : ℕ → Spot
upper_edge = edged 198 209 205 209 181

abbrev pub lower_edge : ℕ → Spot
lower_edge = edged 198 207 205 207 181

-- below the title
abbrev pub middle_edge : ℕ → Spot
middle_edge = edged 32 198 205 181 32

-- beside a line
abbrev pub side_edge : ℕ → Spot
side_edge = edged 32 179 32 179 32

-- whether a column is inside the frame
abbrev pub is_inside : ℕ → Bool
is_inside column = nat_le 2 column && nat_le column 46

-- ---- its lines

-- what stands in front of the first line and behind the last one: a dot (7) in every fifth column
unfoldable pub dots : ℕ → Spot
dots column = spot 30 (if column % 5 == 1 then 7 else 32)

-- whether a line is a choice, if there is such a line
abbrev pub is_choice_at : Option (List ℕ) → Bool
is_choice_at None = false
is_choice_at (Some line) = is_choice line

-- what is told at a choice, between 174 and 175
unfoldable pub prompt : List ℕ
prompt = 174 ∷ codes "Press ENTER to select this" ++ 175 ∷ []

-- what stands above the lines: the title; at a choice what it is told there
abbrev pub heading : Scroll → ℕ → List ℕ
heading scroll line = if is_choice_at (slice_get scroll.lines line) then prompt else scroll.title

unfoldable pub heading_spot : Scroll → ℕ → ℕ → Spot
heading_spot scroll line column =
    let text = heading scroll line in over (centred_from (length text)) 30 text column (ground false column)

-- a line of a scroll, if it has it; or else dots behind the last one, and nothing further on
abbrev pub line_or_dots : Option (List ℕ) → Bool → ℕ → Spot → Spot
line_or_dots (Some line) is_behind column ground = line_spot line column ground
line_or_dots None is_behind column ground = if is_behind then dots column else ground

-- what stands d lines above this one: a line, or dots in front of the first one, or nothing
unfoldable pub above : Scroll → ℕ → ℕ → ℕ → Spot → Spot
above scroll line d column ground =
    if nat_le d line then line_or_dots (slice_get scroll.lines (line - d)) (line - d == length scroll.lines) column ground
    else if d - line == 1 then dots column else ground

-- what stands d lines below it
unfoldable pub below : Scroll → ℕ → ℕ → ℕ → Spot → Spot
below scroll line d column ground = line_or_dots (slice_get scroll.lines (line + d)) (line + d == length scroll.lines) column ground

-- the n-th of the lines that are shown, with this one in their middle
unfoldable pub inner_spot : Scroll → ℕ → ℕ → ℕ → ℕ → Spot
inner_spot scroll line lines n column =
    let middle = lines / 2 in
    if nat_lt n middle then above scroll line (middle - n) column (ground false column)
    else below scroll line (n - middle) column (ground (n == middle) column)

-- beside and between the edges
abbrev pub framed : ℕ → Spot → Spot
framed column inner = if is_inside column then inner else side_edge column

-- the window in a row and a column, for a scroll and the line that is in its middle
unfoldable pub window_spot : Scroll → ℕ → ℕ → ℕ → ℕ → Spot
window_spot scroll line lines row column =
    if row == 0 then upper_edge column else
    if row == 1 then framed column (heading_spot scroll line column) else
    if row == 2 then middle_edge column else
    if row == lines + 3 then lower_edge column else
    framed column (inner_spot scroll line lines (row - 3) column)
