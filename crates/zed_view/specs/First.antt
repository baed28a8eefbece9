-- The first of some boards, in the order in which they stand.
use Rattle.std.specs.Prelude.{◌≡◌, ℕ, ◌+◌, Bool, true, false, List, [], ◌∷◌, if◌then◌else◌, take, drop, slice_get, Option, Some, None}
use Rattle.std.specs.List.{AllByRecursion}
use Rattle.zed_edit.specs.declared.plain.Board.{Board}
use Rattle.zed_edit.specs.declared.numbers.Standing.{Standing}
use Rattle.zed_edit.specs.Numbers.{AreApart, by_number, comes_before, standing, stands_before}

-- whether a board stands behind this standing; behind none stand all
abbrev pub is_behind : Option Standing → Board → Bool
is_behind None b = true
is_behind (Some s) b = stands_before s (standing b)

-- a board among others, before the first that it comes before
abbrev pub put : Board → List Board → List Board
put b [] = b ∷ []
put b (x ∷ xs) = if comes_before b x then b ∷ x ∷ xs else x ∷ put b xs

-- of the boards that pass the first ones, so many at most, in their order
abbrev pub first_of : ℕ → (Board → Bool) → List Board → List Board
first_of most passes [] = []
first_of most passes (b ∷ bs) = if passes b then take most (put b (first_of most passes bs)) else first_of most passes bs

-- none comes before one that stands in front of it
abbrev pub IsInOrder : List Board → Type 0
IsInOrder [] = Unit {0}
IsInOrder (x ∷ xs) = AllByRecursion (λ y. comes_before y x ≡ false) xs × IsInOrder xs

-- the first boards of all have the first numbers
abbrev pub FirstHaveFirstNumbers : Type 0
FirstHaveFirstNumbers = (most : ℕ) (bs : List Board) → AreApart bs → first_of most (is_behind None) bs ≡ take most (by_number bs)

-- and the first of those behind a board the numbers that follow its own
abbrev pub NextHaveNextNumbers : Type 0
NextHaveNextNumbers =
    (most : ℕ) (bs : List Board)
    → AreApart bs
    → (n : ℕ) (b : Board)
    → slice_get (by_number bs) n ≡ Some b
    → first_of most (is_behind (Some (standing b))) bs ≡ take most (drop (n + 1) (by_number bs))
