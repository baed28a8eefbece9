-- How a playtest is kept in two files: its moves, as `zzted play` reads them up to the first choice, and its words of chance.
use Rattle.std.specs.Prelude.{◌≡◌, ◌<◌, ℕ, ◌+◌, ◌-◌, ◌*◌, ◌/◌, ◌%◌, Bool, ◌&&◌, ◌||◌, ◌==◌, nat_le, nat_lt, if◌then◌else◌, List, [], ◌∷◌, ◌++◌, Option, Some, None, option_map, ⊤}
use Rattle.std.specs.List.{flat_map}
use Rattle.zed_play.specs.declared.key.Key.{Key}
use Rattle.zed_play.specs.declared.key.Key.TheVariants.{Wait, North, South, West, East, ShootNorth, ShootSouth, ShootWest, ShootEast}
use Rattle.zed_terminal.specs.declared.moves.Choice.{Choice}
use Rattle.zed_terminal.specs.declared.moves.Move.{Move}
use Rattle.zed_terminal.specs.declared.moves.Move.TheVariants as move
use Rattle.zed_terminal.specs.declared.record.Taken.{Taken}
use Rattle.zed_terminal.specs.declared.record.Spelt.{Spelt}
use Rattle.zed_terminal.specs.declared.record.Spelt.TheVariants.{Nothing, Scroll, Line}

-- the letter of a key: `.` (46) to wait, n, s, w and e to move, N, S, W and E to shoot
abbrev pub letter_of : Key → ℕ
letter_of Wait = 46
letter_of North = 110
letter_of South = 115
letter_of West = 119
letter_of East = 101
letter_of ShootNorth = 78
letter_of ShootSouth = 83
letter_of ShootWest = 87
letter_of ShootEast = 69

-- the key of a letter, if it is one
abbrev pub key_of : ℕ → Option Key
key_of b =
    if b == 46 then Some Wait else
    if b == 110 then Some North else
    if b == 115 then Some South else
    if b == 119 then Some West else
    if b == 101 then Some East else
    if b == 78 then Some ShootNorth else
    if b == 83 then Some ShootSouth else
    if b == 87 then Some ShootWest else
    if b == 69 then Some ShootEast else None

-- how far was read, and no move completed
abbrev pub on : Spelt → Taken
on spelt = record { spelt = spelt; made = None }

-- a key of its own, or none
abbrev pub keyed : Option Key → Taken
keyed key = record { spelt = Nothing; made = option_map (λ k. move.Key k) key }

-- a byte between moves: `!` (33) begins a choice
abbrev pub begun : ℕ → Taken
begun b = if b == 33 then on (Scroll 0) else keyed (key_of b)

abbrev pub is_figure : ℕ → Bool
is_figure b = nat_le 48 b && nat_le b 57

-- a number with one figure more, as far as that leaves it below a million
abbrev pub with_figure : ℕ → ℕ → ℕ
with_figure n b = if nat_lt n 100000 then 10 * n + (b - 48) else n

-- a choice that was read
abbrev pub chosen : ℕ → ℕ → Taken
chosen scroll line = record { spelt = Nothing; made = Some (move.Choice (record { scroll = scroll; line = line })) }

-- a byte behind `!` is a figure of the scroll's number, or `.` (46) in front of the line's, which `;` (59) ends; any other one begins anew
abbrev pub read : Spelt → ℕ → Taken
read Nothing b = begun b
read (Scroll n) b = if is_figure b then on (Scroll (with_figure n b)) else if b == 46 then on (Line n 0) else begun b
read (Line n m) b = if is_figure b then on (Line n (with_figure m b)) else if b == 59 then chosen n m else begun b

-- a move, if there is one
abbrev pub listed : Option Move → List Move
listed None = []
listed (Some made) = made ∷ []

-- the moves of bytes, from here on
abbrev pub moves_from : Spelt → List ℕ → List Move
moves_from spelt [] = []
moves_from spelt (b ∷ bytes) = listed (read spelt b).made ++ moves_from (read spelt b).spelt bytes

-- the moves of a file; what is no letter of a key and no choice is passed over
abbrev pub moves_in : List ℕ → List Move
moves_in = moves_from Nothing

-- a figure of a number, unless it stands in front of the first one
abbrev pub figure : ℕ → ℕ → List ℕ
figure n unit = if unit == 1 || nat_le unit n then (48 + n / unit % 10) ∷ [] else []

-- the figures of a number below a million
unfoldable pub spelled_number : ℕ → List ℕ
spelled_number n = figure n 100000 ++ figure n 10000 ++ figure n 1000 ++ figure n 100 ++ figure n 10 ++ figure n 1

-- a choice: `!` (33), the number of the scroll, `.` (46), that of the line, and `;` (59)
abbrev pub spelled_choice : Choice → List ℕ
spelled_choice c = 33 ∷ spelled_number c.scroll ++ 46 ∷ spelled_number c.line ++ 59 ∷ []

-- the letter of a key, or a choice
abbrev pub spelled_move : Move → List ℕ
spelled_move (move.Key key) = letter_of key ∷ []
spelled_move (move.Choice c) = spelled_choice c

-- the file of moves
abbrev pub spelled_moves : List Move → List ℕ
spelled_moves = flat_map spelled_move

-- the words of a file: numbers of two bytes each, the low one first; an odd last byte is dropped
abbrev pub words_in : List ℕ → List ℕ
words_in [] = []
words_in (low ∷ []) = []
words_in (low ∷ high ∷ bytes) = (low + 256 * high) ∷ words_in bytes

-- a word as two bytes
abbrev pub spelled : ℕ → List ℕ
spelled word = word % 256 ∷ word / 256 ∷ []

-- the file of words
abbrev pub spelled_all : List ℕ → List ℕ
spelled_all = flat_map spelled

-- each of these words has two bytes
abbrev pub AreWords : List ℕ → Type 0
AreWords [] = ⊤
AreWords (word ∷ words) = (word < 65536) × AreWords words

-- the numbers of each choice are below a million
abbrev pub AreSpelled : List Move → Type 0
AreSpelled [] = ⊤
AreSpelled (move.Key key ∷ moves) = AreSpelled moves
AreSpelled (move.Choice c ∷ moves) = (c.scroll < 1000000) × (c.line < 1000000) × AreSpelled moves

-- what is kept of moves is read back
abbrev pub MovesAreReadBack : Type 0
MovesAreReadBack = (moves : List Move) → AreSpelled moves → moves_in (spelled_moves moves) ≡ moves

-- and of words
abbrev pub WordsAreReadBack : Type 0
WordsAreReadBack = (words : List ℕ) → AreWords words → words_in (spelled_all words) ≡ words
