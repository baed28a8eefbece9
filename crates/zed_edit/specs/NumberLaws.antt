-- What holds of the numbers of boards.
use Rattle.std.specs.Prelude.{◌≡◌, ℕ, List, length, map, find, position, slice_get, option_map, IsPermutation, IsSorted}
use Rattle.zed_types.specs.declared.names.BoardId.{BoardId}
use Rattle.zed_types.specs.Names.{same_board}
use Rattle.zed_edit.specs.declared.numbers.Standing.{Standing}
use Rattle.zed_edit.specs.declared.plain.Board.{Board}
use Rattle.zed_edit.specs.Numbers.{AreApart, boards_before, board_with, by_number, standing, standing_cmp}

-- the standings of boards, sorted, are those of the boards in the order of their numbers
abbrev pub StandingsSortByNumber : Type 0
StandingsSortByNumber =
    (bs : List Board) (sorted : List Standing)
    → AreApart bs
    → IsPermutation (map standing bs) sorted
    → IsSorted standing_cmp sorted
    → map standing (by_number bs) ≡ sorted

-- the number of a board is its place among the boards by their numbers
abbrev pub NumbersArePlaces : Type 0
NumbersArePlaces =
    (bs : List Board)
    → AreApart bs
    → (id : BoardId)
    → option_map (boards_before bs) (find (λ b. same_board b.id id) bs) ≡ position (λ b. same_board b.id id) (by_number bs)

-- each board has a number, so there are as many by their numbers
abbrev pub EachHasItsNumber : Type 0
EachHasItsNumber = (bs : List Board) → AreApart bs → length (by_number bs) ≡ length bs

-- the board of a number has that place among the boards by their numbers
abbrev pub NumberedStandAtTheirPlaces : Type 0
NumberedStandAtTheirPlaces =
    (bs : List Board)
    → AreApart bs
    → (n : ℕ)
    → option_map (λ b. b.id) (board_with bs n) ≡ option_map (λ b. b.id) (slice_get (by_number bs) n)
