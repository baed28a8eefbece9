-- Frames, place by place, and their lines of text.
use Rattle.std.specs.Prelude.{◌≡◌, ℕ, ◌+◌, ◌*◌, ◌<◌, ◌&&◌, nat_le, if◌then◌else◌, List, slice_get, slice_index_or, Some, None, Result, MatchResult}
use Rattle.zed_screen.specs.declared.frame.Cell.{Cell}
use Rattle.zed_screen.specs.declared.frame.Frame.{Frame}
use Rattle.zed_screen.specs.Picture.{data_cell, side}
use Rattle.zed_screen.specs.declared.error.ScreenError.{ScreenError}
use Rattle.zed_screen.specs.declared.error.ScreenError.TheVariants.{NoBoard}
use Rattle.zed_world.specs.declared.board.BoardData.{BoardData}
use Rattle.zed_world.specs.Contents.{Contents}

-- each of the 2,000 places is as f tells
abbrev pub Shows : Frame → (ℕ → Cell) → Type 0
Shows frame f = (k : ℕ) → k < 2000 → slice_get frame.cells k ≡ Some (f k)

-- printable bytes are shown as they are
abbrev pub printable : ℕ → ℕ
printable b = if nat_le 32 b && nat_le b 126 then b else 63

-- the printable byte of a cell
abbrev pub ascii_of : Cell → ℕ
ascii_of c = printable c.character

-- the byte that is shown at column x of row y of a frame, both counted from 0
unfoldable pub line_byte : Frame → ℕ → ℕ → ℕ
line_byte f y x = ascii_of (slice_index_or f.cells (80 * y + x) side)

-- a line begins with the 80 bytes that are shown in row y of a frame
abbrev pub IsLine : Frame → ℕ → List ℕ → Type 0
IsLine f y line = (x : ℕ) → x < 80 → slice_get line x ≡ Some (line_byte f y x)

-- each of the 25 lines has these 80 bytes
abbrev pub AreLines : List (List ℕ) → Frame → ℕ → Type 0
AreLines lines f n = (y : ℕ) → y < n → (line : List ℕ) × ((slice_get lines y ≡ Some line) × IsLine f y line)

-- the picture of the board of this number, or the world has none
abbrev pub DrawsBoard : Result Frame ScreenError → Contents → ℕ → Type 0
DrawsBoard result w n =
    MatchResult result
    (λ f. (b : BoardData) × ((slice_get w.boards n ≡ Some b) × Shows f (data_cell b)))
    (λ e. (e ≡ NoBoard) × (slice_get w.boards n ≡ None))
