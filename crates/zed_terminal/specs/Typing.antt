-- Keys as a terminal sends them.
use Rattle.std.specs.Prelude.{ℕ, ◌+◌, ◌-◌, ◌*◌, Bool, ◌&&◌, ◌||◌, ◌==◌, nat_le, nat_lt, if◌then◌else◌, List, [], ◌∷◌, Option, Some, None, option_map}
use Rattle.zed_play.specs.declared.key.Key.{Key}
use Rattle.zed_play.specs.declared.key.Key.TheVariants.{Wait, North, South, West, East, ShootNorth, ShootSouth, ShootWest, ShootEast}
use Rattle.zed_terminal.specs.declared.input.Input.{Input}
use Rattle.zed_terminal.specs.declared.input.Size.{Size as TheSize}
use Rattle.zed_terminal.specs.declared.input.Input.TheVariants.{Pressed, Paged, Entered, Escaped, Resized}
use Rattle.zed_terminal.specs.declared.input.Page.{Page}
use Rattle.zed_terminal.specs.declared.input.Page.TheVariants.{Up, Down}
use Rattle.zed_terminal.specs.declared.typing.Reading.{Reading}
use Rattle.zed_terminal.specs.declared.typing.Reading.TheVariants.{Between, Escape, Arrow, Number, Paging, Modifier, Shifted, Size, Rows, Columns, Over}
use Rattle.zed_terminal.specs.declared.typing.Stroke.{Stroke}

-- a size of so many rows and columns
abbrev pub sized : ℕ → ℕ → TheSize
sized rows columns = record { rows = rows; columns = columns }

-- the key of a letter with shift: A to D, or a to d
abbrev pub shot : ℕ → Option Key
shot b =
    if b == 65 || b == 97 then Some ShootNorth else
    if b == 66 || b == 98 then Some ShootSouth else
    if b == 67 || b == 99 then Some ShootEast else
    if b == 68 || b == 100 then Some ShootWest else None

-- the same without: a small letter tells of shift by itself
abbrev pub arrow : ℕ → Option Key
arrow b =
    if b == 65 then Some North else if b == 66 then Some South else if b == 67 then Some East else if b == 68 then Some West else shot b

-- a byte that completes nothing
abbrev pub on : Reading → Stroke
on reading = record { reading = reading; input = None }

-- a byte that completes this, or nothing
abbrev pub completes : Option Input → Stroke
completes input = record { reading = Between; input = input }

-- a byte that completes this key, or none
abbrev pub ends : Option Key → Stroke
ends key = completes (option_map (λ k. Pressed k) key)

-- the key of a byte by itself: a space (32) waits, w, a, s and d shoot
abbrev pub letter : ℕ → Option Key
letter b =
    if b == 32 then Some Wait else
    if b == 119 then Some ShootNorth else
    if b == 97 then Some ShootWest else
    if b == 115 then Some ShootSouth else
    if b == 100 then Some ShootEast else None

-- q (113), and control with C (3) or D (4), end the keys; a line feed (10) or carriage return (13) is Enter
abbrev pub plain : ℕ → Stroke
plain b =
    if b == 113 || b == 3 || b == 4 then on Over else
    if b == 10 || b == 13 then completes (Some Entered) else ends (letter b)

abbrev pub is_digit : ℕ → Bool
is_digit b = nat_le 48 b && nat_le b 57

-- a byte behind `[`, `O` or numbers: `;` (59), a digit, or the letter of this key
abbrev pub numbers : ℕ → Option Key → Stroke
numbers b key = if b == 59 then on Modifier else if is_digit b then on Number else ends key

-- a number with one digit more; one of four digits stays
abbrev pub longer : ℕ → ℕ → ℕ
longer n b = if nat_lt n 1000 then 10 * n + (b - 48) else n

-- behind the rows of a size comes a digit more, or `;` (59) and its columns
abbrev pub rows_on : ℕ → ℕ → Stroke
rows_on rows b = if b == 59 then on (Columns rows 0) else if is_digit b then on (Rows (longer rows b)) else completes None

-- behind its columns comes a digit more, or `t` (116)
abbrev pub columns_on : ℕ → ℕ → ℕ → Stroke
columns_on rows columns b =
    if is_digit b then on (Columns rows (longer columns b)) else if b == 116 then completes (Some (Resized (sized rows columns))) else completes None

-- behind `[` or `O` comes the number of a page key, 5 (53) for up or 6 (54) for down, or 8 (56), which tells of a size, or an arrow
abbrev pub begins : ℕ → Stroke
begins b = if b == 53 then on (Paging Up) else if b == 54 then on (Paging Down) else if b == 56 then on Size else numbers b (arrow b)

-- behind the number of a page key comes `~` (126)
abbrev pub paging : Page → ℕ → Stroke
paging page b = if b == 126 then completes (Some (Paged page)) else numbers b (arrow b)

-- an escape that is a key of its own, in front of another one
abbrev pub escaped_again : Stroke
escaped_again = record { reading = Escape; input = Some Escaped }

-- behind an escape (27) come `[` (91) or `O` (79). If time went by, which is told by 0, or another escape comes, it was a key of its own; if another byte
-- comes, that alone is read
abbrev pub escaped : ℕ → Stroke
escaped b =
    if b == 91 || b == 79 then on Arrow else
    if b == 0 then completes (Some Escaped) else
    if b == 27 then escaped_again else plain b

-- a byte that begins nothing anew. The number 2 (50) behind `;` tells of shift
abbrev pub inside : Reading → ℕ → Stroke
inside Between b = plain b
inside Escape b = escaped b
inside Arrow b = begins b
inside Number b = numbers b (arrow b)
inside (Paging page) b = paging page b
inside Modifier b = if b == 50 then on Shifted else numbers b (arrow b)
inside Shifted b = numbers b (shot b)
inside Size b = if b == 59 then on (Rows 0) else numbers b (arrow b)
inside (Rows rows) b = rows_on rows b
inside (Columns rows columns) b = columns_on rows columns b
inside Over b = on Over

-- escape (27) begins anew
abbrev pub or_anew : ℕ → Stroke → Stroke
or_anew b stroke = if b == 27 then on Escape else stroke

-- what a byte comes to
abbrev pub typed : Reading → ℕ → Stroke
typed Between b = or_anew b (inside Between b)
typed Escape b = escaped b
typed Arrow b = or_anew b (inside Arrow b)
typed Number b = or_anew b (inside Number b)
typed (Paging page) b = or_anew b (inside (Paging page) b)
typed Modifier b = or_anew b (inside Modifier b)
typed Shifted b = or_anew b (inside Shifted b)
typed Size b = or_anew b (inside Size b)
typed (Rows rows) b = or_anew b (inside (Rows rows) b)
typed (Columns rows columns) b = or_anew b (inside (Columns rows columns) b)
typed Over b = on Over

-- one thing, if there is one, and others
abbrev pub with_input : Option Input → List Input → List Input
with_input None inputs = inputs
with_input (Some input) inputs = input ∷ inputs

-- what bytes come to
abbrev pub inputs_in : Reading → List ℕ → List Input
inputs_in reading [] = []
inputs_in reading (b ∷ bytes) = with_input (typed reading b).input (inputs_in (typed reading b).reading bytes)

-- the same, if the bytes are told
abbrev pub inputs_left : Reading → Option (List ℕ) → Option (List Input)
inputs_left reading = option_map (inputs_in reading)
