-- Kinds of tiles as a program writes them.
use Rattle.std.specs.Prelude.{ℕ, zero, suc, ◌%◌, Bool, true, ◌&&◌, not, ◌==◌, if◌then◌else◌, List, length, Option, Some, None, unwrap_or, codes}
use Rattle.std.specs.Str.{bytes_eq}
use Rattle.zed_types.specs.declared.tile.Tile.{Tile}
use Rattle.zed_types.specs.Elements.{row_of}
use Rattle.zed_oop_syntax.specs.declared.kinds.TileKind.{TileKind}
use Rattle.zed_oop_syntax.specs.Text.{word_at, word_end}

-- whether a tile has a colour word's colour
abbrev pub has_colour : Option ℕ → ℕ → Bool
has_colour None n = true
has_colour (Some colour) n = n % 16 == colour

-- whether a tile is of a kind
abbrev pub matches : TileKind → Tile → Bool
matches k t = t.element == k.element && has_colour k.colour t.colour

-- a tile of a kind, which has this colour where the kind has none
abbrev pub tile_of : TileKind → ℕ → Tile
tile_of k colour = record { element = k.element; colour = unwrap_or k.colour colour }

-- the colour of a colour word: 9 to 15
unfoldable pub colour_of : List ℕ → Option ℕ
colour_of w =
    if bytes_eq w (codes "BLUE") then Some 9 else
    if bytes_eq w (codes "GREEN") then Some 10 else
    if bytes_eq w (codes "CYAN") then Some 11 else
    if bytes_eq w (codes "RED") then Some 12 else
    if bytes_eq w (codes "PURPLE") then Some 13 else
    if bytes_eq w (codes "YELLOW") then Some 14 else
    if bytes_eq w (codes "WHITE") then Some 15 else None

-- whether an element has this word
unfoldable pub is_element : List ℕ → ℕ → Bool
is_element w n = bytes_eq w (row_of n).word

-- the element of this word among the first n; no word is of two
abbrev pub element_below : ℕ → List ℕ → Option ℕ
element_below zero w = None
element_below (suc n) w = if is_element w n then Some n else element_below n w

-- the element of a word; the elements that have none aren't meant by an empty one
unfoldable pub element_of : List ℕ → Option ℕ
element_of w = if length w == 0 then None else element_below 54 w

-- a kind, but none for the player where it isn't allowed
abbrev pub allowed : TileKind → Bool → Option TileKind
allowed k player = if k.element == 4 && not player then None else Some k

-- the kind of a colour, if any, and an element; none without one, or for a player that isn't allowed
abbrev pub kind_with : Option ℕ → Bool → Option ℕ → Option TileKind
kind_with colour player None = None
kind_with colour player (Some n) = allowed (record { colour = colour; element = n }) player

-- the kind of a colour, if any, and an element's word; none for no element, or a player not allowed
abbrev pub kind_of : Option ℕ → List ℕ → Bool → Option TileKind
kind_of colour w player = kind_with colour player (element_of w)

-- with the colour of the word at a place the element is the word behind it, without one that word
abbrev pub kind_behind : List ℕ → ℕ → Bool → Option ℕ → Option TileKind × ℕ
kind_behind p at player None = (kind_of None (word_at p at) player, word_end p at)
kind_behind p at player (Some colour) =
    (kind_of (Some colour) (word_at p (word_end p at)) player, word_end p (word_end p at))

-- the kind at a place, none where none stands there, and the place behind its words
unfoldable pub kind_at : List ℕ → ℕ → Bool → Option TileKind × ℕ
kind_at p at player = kind_behind p at player (colour_of (word_at p at))
