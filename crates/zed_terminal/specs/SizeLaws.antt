-- Which keys a terminal has.
use Rattle.std.specs.Prelude.{◌≡◌, ℕ, true, ◌∷◌, ◌++◌, List, []}
use Rattle.std.specs.List.{list_all}
use Rattle.zed_play.specs.declared.key.Key.{Key}
use Rattle.zed_play.specs.declared.key.Key.TheVariants.{Wait, North, South, West, East, ShootNorth, ShootSouth, ShootWest, ShootEast}
use Rattle.zed_terminal.specs.declared.input.Input.{Input}
use Rattle.zed_terminal.specs.declared.input.Input.TheVariants.{Pressed, Paged, Entered, Escaped, Resized}
use Rattle.zed_terminal.specs.declared.input.Page.TheVariants.{Up, Down}
use Rattle.zed_terminal.specs.declared.typing.Reading.TheVariants.{Between}
use Rattle.zed_terminal.specs.Typing.{inputs_in, is_digit, longer, sized}

-- these bytes in front of others are told as this
abbrev pub IsTyped : (List ℕ → List ℕ) → Input → Type 0
IsTyped before input = (bytes : List ℕ) → inputs_in Between (before bytes) ≡ input ∷ inputs_in Between bytes

-- they are this key
abbrev pub IsKey : (List ℕ → List ℕ) → Key → Type 0
IsKey before key = IsTyped before (Pressed key)

-- a letter in both spellings of an arrow: behind escape (27) and `[` (91), or `O` (79)
abbrev pub IsArrow : ℕ → Key → Type 0
IsArrow letter key = IsKey (λ bytes. 27 ∷ 91 ∷ letter ∷ bytes) key × IsKey (λ bytes. 27 ∷ 79 ∷ letter ∷ bytes) key

-- a letter behind `ESC [ 1 ; 2`, which is an arrow with shift
abbrev pub IsShifted : ℕ → Key → Type 0
IsShifted letter key = IsKey (λ bytes. 27 ∷ 91 ∷ 49 ∷ 59 ∷ 50 ∷ letter ∷ bytes) key

-- the arrows up, down, to the right and to the left are A to D; with shift they shoot
abbrev pub ArrowsAreKeys : Type 0
ArrowsAreKeys =
    IsArrow 65 North × IsArrow 66 South × IsArrow 67 East × IsArrow 68 West
    × IsShifted 65 ShootNorth × IsShifted 66 ShootSouth × IsShifted 67 ShootEast × IsShifted 68 ShootWest

-- a space (32) waits; w, a, s and d shoot
abbrev pub LettersAreKeys : Type 0
LettersAreKeys =
    IsKey (λ bytes. 32 ∷ bytes) Wait × IsKey (λ bytes. 119 ∷ bytes) ShootNorth × IsKey (λ bytes. 97 ∷ bytes) ShootWest
    × IsKey (λ bytes. 115 ∷ bytes) ShootSouth × IsKey (λ bytes. 100 ∷ bytes) ShootEast

-- page keys are `ESC [ 5 ~` and `ESC [ 6 ~`; Enter is a carriage return (13) or a line feed (10); Escape is `ESC` and 0, which tells that time went by
abbrev pub ScrollKeysAreTold : Type 0
ScrollKeysAreTold =
    IsTyped (λ bytes. 27 ∷ 91 ∷ 53 ∷ 126 ∷ bytes) (Paged Up) × IsTyped (λ bytes. 27 ∷ 91 ∷ 54 ∷ 126 ∷ bytes) (Paged Down)
    × IsTyped (λ bytes. 13 ∷ bytes) Entered × IsTyped (λ bytes. 10 ∷ bytes) Entered × IsTyped (λ bytes. 27 ∷ 0 ∷ bytes) Escaped

-- the number of these digits
abbrev pub number_of : ℕ → List ℕ → ℕ
number_of n [] = n
number_of n (digit ∷ digits) = number_of (longer n digit) digits

-- `ESC [ 8 ; rows ; columns t` tells of a size
abbrev pub SizesAreTold : Type 0
SizesAreTold =
    (rows columns bytes : List ℕ) → list_all is_digit rows ≡ true → list_all is_digit columns ≡ true →
    inputs_in Between (27 ∷ 91 ∷ 56 ∷ 59 ∷ (rows ++ (59 ∷ (columns ++ (116 ∷ bytes))))) ≡ Resized (sized (number_of 0 rows) (number_of 0 columns)) ∷ inputs_in Between bytes
