-- What a filter asks for in a document.
use Rattle.std.specs.Prelude.{ℕ, if◌then◌else◌, Option, Some, None, Result, Ok, Err}
use Rattle.zed_types.specs.declared.names.BoardId.{BoardId}
use Rattle.zed_types.specs.declared.stamp.Stamp.{Stamp}
use Rattle.zed_types.specs.declared.tile.Place.{Place}
use Rattle.zed_types.specs.Table.{has_tile}
use Rattle.zed_op.specs.declared.thing.Thing.TheVariants as thing
use Rattle.zed_edit.specs.declared.plain.Plain.{Plain}
use Rattle.zed_edit.specs.Document.{has}
use Rattle.zed_edit.specs.Numbers.{board_numbered}
use Rattle.zed_filter.specs.declared.error.FilterError.{FilterError}
use Rattle.zed_filter.specs.declared.error.FilterError.TheVariants.{NoBoard, OutOfRange}
use Rattle.zed_filter.specs.declared.filter.BoardChoice.{BoardChoice}
use Rattle.zed_filter.specs.declared.filter.BoardChoice.TheVariants as choice
use Rattle.zed_filter.specs.declared.filter.Filter.{Filter}
use Rattle.zed_filter.specs.declared.sought.Cell.{Cell}
use Rattle.zed_filter.specs.declared.sought.Sought.{Sought}

-- a board that is there, or NoBoard
abbrev pub board_or_none : Option BoardId → Result BoardId FilterError
board_or_none None = Err NoBoard
board_or_none (Some b) = Ok b

-- the board of today's number
abbrev pub numbered_board : Plain → ℕ → Result BoardId FilterError
numbered_board p n = board_or_none (board_numbered p n)

-- the board of this name, removed or not
abbrev pub named_board : Plain → BoardId → Result BoardId FilterError
named_board p b = if has p (thing.Board b) then Ok b else Err NoBoard

-- the board that is chosen, or NoBoard
abbrev pub chosen_board : Plain → BoardChoice → Result BoardId FilterError
chosen_board p (choice.Number n) = numbered_board p n
chosen_board p (choice.Name b) = named_board p b

-- a place of the table, or OutOfRange
abbrev pub place_of : ℕ → ℕ → Result Place FilterError
place_of x y = if has_tile x y then Ok (record { x = x; y = y }) else Err OutOfRange

-- a value is there then, and a refusal stays
abbrev pub there : {X : Type 0} → Result X FilterError → Result (Option X) FilterError
there (Ok x) = Ok (Some x)
there (Err e) = Err e

-- the board that is asked for, if one is
abbrev pub board_sought : Plain → Option BoardChoice → Result (Option BoardId) FilterError
board_sought p None = Ok None
board_sought p (Some c) = there (chosen_board p c)

-- a place on a board: the refusal of the place comes first
abbrev pub cell_on : Result Place FilterError → Result BoardId FilterError → Result Cell FilterError
cell_on (Err e) board = Err e
cell_on (Ok place) (Err e) = Err e
cell_on (Ok place) (Ok board) = Ok (record { board = board; place = place })

-- a cell of the board of today's number
abbrev pub cell_at : Plain → ℕ → ℕ → ℕ → Result Cell FilterError
cell_at p n x y = cell_on (place_of x y) (numbered_board p n)

-- the cell that is asked for, if one is
abbrev pub cell_sought : Plain → Option (ℕ × ℕ × ℕ) → Result (Option Cell) FilterError
cell_sought p None = Ok None
cell_sought p (Some (n, x, y)) = there (cell_at p n x y)

-- all that is asked for, or the first refusal: that of the board comes first
abbrev pub sought_with : Option ℕ → Option Stamp → Option Stamp → Result (Option BoardId) FilterError → Result (Option Cell) FilterError → Result Sought FilterError
sought_with replica since until (Err e) cell = Err e
sought_with replica since until (Ok board) (Err e) = Err e
sought_with replica since until (Ok board) (Ok cell) = Ok (record { board = board; cell = cell; replica = replica; since = since; until = until })

-- what a filter asks for in a document, or the first refusal
abbrev pub sought_of : Plain → Filter → Result Sought FilterError
sought_of p f = sought_with f.replica f.since f.until (board_sought p f.board) (cell_sought p f.cell)
