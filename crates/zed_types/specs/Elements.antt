-- The table of elements.
use Rattle.std.specs.Prelude.{◌≡◌, ℕ, Bool, true, false, List, [], ◌∷◌, codes, slice_index_or}
use Rattle.zed_types.specs.declared.kind.Push.{Push}
use Rattle.zed_types.specs.declared.kind.Push.TheVariants.{Not, Any, NorthSouth, EastWest}
use Rattle.zed_types.specs.declared.kind.Look.{Look}
use Rattle.zed_types.specs.declared.kind.Look.TheVariants.{Character, FirstParameter, Colour}
use Rattle.zed_types.specs.declared.kind.Element.{Element}

-- a row of the table: the word, what is shown, whether it is walkable, how it is pushed, whether it is destructible
pub record Row : Type 0 where
  pub word : List ℕ
  pub character : Look
  pub walkable : Bool
  pub push : Push
  pub destructible : Bool

-- a row by its columns: the word, what is shown, whether walkable, how pushed, whether destructible
abbrev pub row : List ℕ → Look → Bool → Push → Bool → Row
row word character walkable push destructible =
    record { word = word; character = character; walkable = walkable; push = push; destructible = destructible }

-- the elements from 0 on
abbrev pub rows : List Row
rows =
    row (codes "EMPTY") (Character 32) true Any false
    ∷ row (codes "") (Character 32) false Not false
    ∷ row (codes "") (Character 32) false Not false
    ∷ row (codes "MONITOR") (Character 32) false Not false
    ∷ row (codes "PLAYER") (Character 64) false Any true
    ∷ row (codes "AMMO") (Character 97) false Any false
    ∷ row (codes "TORCH") (Character 116) false Not false
    ∷ row (codes "GEM") (Character 103) false Any true
    ∷ row (codes "KEY") (Character 107) false Any false
    ∷ row (codes "DOOR") (Character 68) false Not false
    ∷ row (codes "SCROLL") (Character 115) false Any false
    ∷ row (codes "PASSAGE") (Character 61) false Not false
    ∷ row (codes "DUPLICATOR") (Character 100) false Not false
    ∷ row (codes "BOMB") (Character 98) false Any false
    ∷ row (codes "ENERGIZER") (Character 101) false Not false
    ∷ row (codes "STAR") (Character 42) false Not false
    ∷ row (codes "CLOCKWISE") (Character 47) false Not false
    ∷ row (codes "COUNTER") (Character 92) false Not false
    ∷ row (codes "BULLET") (Character 46) false Not true
    ∷ row (codes "WATER") (Character 126) false Not false
    ∷ row (codes "FOREST") (Character 37) false Not false
    ∷ row (codes "SOLID") (Character 35) false Not false
    ∷ row (codes "NORMAL") (Character 43) false Not false
    ∷ row (codes "BREAKABLE") (Character 58) false Not false
    ∷ row (codes "BOULDER") (Character 79) false Any false
    ∷ row (codes "SLIDERNS") (Character 124) false NorthSouth false
    ∷ row (codes "SLIDEREW") (Character 45) false EastWest false
    ∷ row (codes "FAKE") (Character 44) true Not false
    ∷ row (codes "INVISIBLE") (Character 32) false Not false
    ∷ row (codes "BLINKWALL") (Character 66) false Not false
    ∷ row (codes "TRANSPORTER") (Character 60) false Not false
    ∷ row (codes "LINE") (Character 108) false Not false
    ∷ row (codes "RICOCHET") (Character 114) false Not false
    ∷ row (codes "") (Character 104) false Not false
    ∷ row (codes "BEAR") (Character 85) false Any true
    ∷ row (codes "RUFFIAN") (Character 82) false Any true
    ∷ row (codes "OBJECT") FirstParameter false Not false
    ∷ row (codes "SLIME") (Character 109) false Not false
    ∷ row (codes "SHARK") (Character 94) false Not false
    ∷ row (codes "SPINNINGGUN") (Character 71) false Not false
    ∷ row (codes "PUSHER") (Character 80) false Not false
    ∷ row (codes "LION") (Character 76) false Any true
    ∷ row (codes "TIGER") (Character 84) false Any true
    ∷ row (codes "") (Character 118) false Not false
    ∷ row (codes "HEAD") (Character 72) false Not true
    ∷ row (codes "SEGMENT") (Character 111) false Not true
    ∷ row (codes "") (Character 63) false Not false
    ∷ row (codes "") Colour false Not false
    ∷ row (codes "") Colour false Not false
    ∷ row (codes "") Colour false Not false
    ∷ row (codes "") Colour false Not false
    ∷ row (codes "") Colour false Not false
    ∷ row (codes "") Colour false Not false
    ∷ row (codes "") Colour false Not false
    ∷ []

-- the row of an element; over 53 there is a question mark without properties
abbrev pub row_of : ℕ → Row
row_of n = slice_index_or rows n (row [] (Character 63) false Not false)

-- an element is what its row says
pub record IsRow (e : Element) (r : Row) : Type 0 where
  pub word : e.word.now ≡ r.word
  pub character : e.character ≡ r.character
  pub walkable : e.walkable ≡ r.walkable
  pub push : e.push ≡ r.push
  pub destructible : e.destructible ≡ r.destructible

-- each element of a list is what the row of its place says
abbrev pub AreRows : List Element → List Row → Type 0
AreRows [] [] = Unit {0}
AreRows (e ∷ es) (r ∷ rs) = IsRow e r × AreRows es rs
AreRows [] (r ∷ rs) = ⊥
AreRows (e ∷ es) [] = ⊥
