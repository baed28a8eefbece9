-- What the words of an action say.
use Rattle.std.specs.Prelude.{◌≡◌, ◌⊎◌, ◌<◌, MatchResult, Result, ℕ, ℤ, pos, ◌==◌, if◌then◌else◌, List, [], ◌∷◌, length, map, codes, Option, Some, None, option_and_then, option_map}
use Rattle.std.specs.Borrow.{Bor}
use Rattle.std.specs.Str.{bytes_eq}
use Rattle.zed_plaintext.specs.Digits.{digits_of}
use Rattle.zed_types.specs.declared.property.Side.{Side}
use Rattle.zed_types.specs.declared.property.Side.TheVariants.{North, South, West, East}
use Rattle.zed_types.specs.declared.tile.Rectangle.{Rectangle}
use Rattle.zed_types.specs.declared.tile.Tile.{Tile}
use Rattle.zed_action.specs.declared.error.ActionError.{ActionError}
use Rattle.zed_action.specs.declared.error.ActionError.TheVariants.{BadAction}
use Rattle.zed_action.specs.Refusals.{memory}
use Rattle.zed_action.specs.declared.action.Action.{Action}
use Rattle.zed_action.specs.declared.action.Action.TheVariants.{BoardAdd, BoardRemove, BoardName, Exit, Rank, Cells, StatAdd, StatRemove, Insert, Delete}

infixl 10 ◌>>=◌
-- what follows of a value, if there is one
abbrev pub ◌>>=◌ : {A B : Type 0} → Option A → (A → Option B) → Option B
o >>= f = option_and_then f o

-- one of an action's words, its bytes
abbrev pub Word : Type 0
Word = List ℕ

-- the words that a caller lends
abbrev pub words_of : List (Bor Word) → List Word
words_of = map (λ s. s.now)

-- ---- fields

-- a number of one byte
abbrev pub byte_of : Word → Option ℕ
byte_of word = digits_of 255 word

-- the number of a board or a stat, or a rank
abbrev pub short_of : Word → Option ℕ
short_of word = digits_of 65535 word

-- a position in a text
abbrev pub long_of : Word → Option ℕ
long_of word = digits_of 4294967295 word

-- a cycle: a number up to 32,767
abbrev pub cycle_of : Word → Option ℤ
cycle_of word = option_map pos (digits_of 32767 word)

-- the side of a board that a word names
abbrev pub side_of : Word → Option Side
side_of word =
    if bytes_eq word (codes "north") then Some North else
    if bytes_eq word (codes "south") then Some South else
    if bytes_eq word (codes "west") then Some West else
    if bytes_eq word (codes "east") then Some East else None

-- a rectangle: its left column, top row, right column and bottom row
abbrev pub rectangle_of : Word → Word → Word → Word → Option Rectangle
rectangle_of x0 y0 x1 y1 = do
  left ← byte_of x0
  top ← byte_of y0
  right ← byte_of x1
  bottom ← byte_of y1
  Some (record { left = left; top = top; right = right; bottom = bottom })

-- a tile: its element and its colour
abbrev pub tile_of : Word → Word → Option Tile
tile_of element colour = do
  e ← byte_of element
  c ← byte_of colour
  Some (record { element = e; colour = c })

-- a board, a stat and a position in its program
abbrev pub spot_of : Word → Word → Word → Option (ℕ × ℕ × ℕ)
spot_of b s p = do
  board ← short_of b
  stat ← short_of s
  position ← long_of p
  Some (board, stat, position)

-- `|` (124) stands for the end of a line (13)
abbrev pub end_for : ℕ → ℕ
end_for byte = if byte == 124 then 13 else byte

-- the bytes of a word, with the ends of lines
abbrev pub with_line_ends : Word → List ℕ
with_line_ends word = map end_for word

-- ---- actions, by the words behind the first

-- `board-add`: the name of the new board
abbrev pub board_add_of : List Word → Option Action
board_add_of (name ∷ []) = Some (BoardAdd name)
board_add_of _ = None

-- `board-remove`: the number of a board
abbrev pub board_remove_of : List Word → Option Action
board_remove_of (b ∷ []) = option_map BoardRemove (short_of b)
board_remove_of _ = None

-- `board-name`: a board, and the name that it gets
abbrev pub board_name_of : List Word → Option Action
board_name_of (b ∷ name ∷ []) = option_map (λ board. BoardName board name) (short_of b)
board_name_of _ = None

-- `exit`: a board, a side, and the board to that side, 0 for none
abbrev pub exit_of : List Word → Option Action
exit_of (b ∷ s ∷ t ∷ []) = do
  board ← short_of b
  side ← side_of s
  to ← short_of t
  Some (Exit board side to)
exit_of _ = None

-- `rank`: a board, and the rank that it gets
abbrev pub rank_of : List Word → Option Action
rank_of (b ∷ v ∷ []) = do
  board ← short_of b
  value ← short_of v
  Some (Rank board value)
rank_of _ = None

-- `cells`: a board, a rectangle, and the tile that fills it
abbrev pub cells_of : List Word → Option Action
cells_of (b ∷ x0 ∷ y0 ∷ x1 ∷ y1 ∷ element ∷ colour ∷ []) = do
  board ← short_of b
  cells ← rectangle_of x0 y0 x1 y1
  tile ← tile_of element colour
  Some (Cells board cells tile)
cells_of _ = None

-- `stat-add`: a board, a column, a row, and a cycle
abbrev pub stat_add_of : List Word → Option Action
stat_add_of (b ∷ x ∷ y ∷ c ∷ []) = do
  board ← short_of b
  column ← byte_of x
  row ← byte_of y
  cycle ← cycle_of c
  Some (StatAdd board column row cycle)
stat_add_of _ = None

-- `stat-remove`: a board, and one of its stats
abbrev pub stat_remove_of : List Word → Option Action
stat_remove_of (b ∷ s ∷ []) = do
  board ← short_of b
  stat ← short_of s
  Some (StatRemove board stat)
stat_remove_of _ = None

-- `insert`: a board, a stat, a position in its program, and the bytes that go in there
abbrev pub insert_of : List Word → Option Action
insert_of (b ∷ s ∷ p ∷ text ∷ []) = do
  spot ← spot_of b s p
  Some (Insert spot.0 spot.1 spot.2 (with_line_ends text))
insert_of _ = None

-- `delete`: a board, a stat, and the positions in its program between which the bytes go out
abbrev pub delete_of : List Word → Option Action
delete_of (b ∷ s ∷ f ∷ t ∷ []) = do
  spot ← spot_of b s f
  to ← long_of t
  Some (Delete spot.0 spot.1 spot.2 to)
delete_of _ = None

-- ---- all

-- an action that is numbers and sides alone, by its first word and those behind it
abbrev pub numbered_of : Word → List Word → Option Action
numbered_of verb rest =
    if bytes_eq verb (codes "board-remove") then board_remove_of rest else
    if bytes_eq verb (codes "exit") then exit_of rest else
    if bytes_eq verb (codes "rank") then rank_of rest else
    if bytes_eq verb (codes "cells") then cells_of rest else
    if bytes_eq verb (codes "stat-add") then stat_add_of rest else
    if bytes_eq verb (codes "stat-remove") then stat_remove_of rest else
    if bytes_eq verb (codes "delete") then delete_of rest else None

-- what the words say, or that they are no action
unfoldable pub action_of : List Word → Option Action
action_of [] = None
action_of (verb ∷ rest) =
    if bytes_eq verb (codes "board-add") then board_add_of rest else
    if bytes_eq verb (codes "board-name") then board_name_of rest else
    if bytes_eq verb (codes "insert") then insert_of rest else numbered_of verb rest

-- the bytes of its words that an action keeps
abbrev pub kept_bytes : Action → List ℕ
kept_bytes (BoardAdd name) = name
kept_bytes (BoardName b name) = name
kept_bytes (Insert b s p bytes) = bytes
kept_bytes _ = []

-- words are an action that keeps bytes of them
abbrev pub KeepsBytes : Option Action → Type 0
KeepsBytes None = ⊥
KeepsBytes (Some a) = 0 < length (kept_bytes a)

-- an action that is what the words say, or BadAction where they are none; or want of memory where bytes of them are kept
abbrev pub Says : Result Action ActionError → Option Action → Type 0
Says result said = MatchResult result (λ a. said ≡ Some a) (λ e. ((e ≡ memory) × KeepsBytes said) ⊎ ((e ≡ BadAction) × (said ≡ None)))
