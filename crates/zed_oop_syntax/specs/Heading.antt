-- Directions as a program writes them.
use Rattle.std.specs.Prelude.{◌≡◌, ℕ, ◌<◌, ◌||◌, if◌then◌else◌, List, [], ◌∷◌, length, Option, Some, None, codes}
use Rattle.std.specs.Str.{bytes_eq}
use Rattle.zed_oop_syntax.specs.declared.heading.Course.{Course}
use Rattle.zed_oop_syntax.specs.declared.heading.Course.TheVariants.{North, South, East, West, Idle, Seek, Flow, Random, RandomNorthOrSouth, RandomNorthOrEast}
use Rattle.zed_oop_syntax.specs.declared.heading.Heading.{Heading}
use Rattle.zed_oop_syntax.specs.declared.heading.Turning.{Turning}
use Rattle.zed_oop_syntax.specs.declared.heading.Turning.TheVariants.{Clockwise, CounterClockwise, Opposite, Sideways}
use Rattle.zed_oop_syntax.specs.Text.{meaning_in, word_at, word_end}

-- how a word turns the direction behind it, if it does
unfoldable pub turning_of : List ℕ → Option Turning
turning_of w = meaning_in (
    (codes "CW", Clockwise) ∷ (codes "CCW", CounterClockwise) ∷ (codes "OPP", Opposite)
    ∷ (codes "RNDP", Sideways) ∷ []) w

-- where a word leads by chance, or by what the object knows
unfoldable pub chosen_of : List ℕ → Option Course
chosen_of w = meaning_in (
    (codes "SEEK", Seek) ∷ (codes "FLOW", Flow) ∷ (codes "RND", Random)
    ∷ (codes "RNDNS", RandomNorthOrSouth) ∷ (codes "RNDNE", RandomNorthOrEast) ∷ []) w

-- where a word leads
unfoldable pub course_of : List ℕ → Option Course
course_of w =
    if bytes_eq w (codes "N") || bytes_eq w (codes "NORTH") then Some North else
    if bytes_eq w (codes "S") || bytes_eq w (codes "SOUTH") then Some South else
    if bytes_eq w (codes "E") || bytes_eq w (codes "EAST") then Some East else
    if bytes_eq w (codes "W") || bytes_eq w (codes "WEST") then Some West else
    if bytes_eq w (codes "I") || bytes_eq w (codes "IDLE") then Some Idle else chosen_of w

-- a word of a direction: how it turns, if it does, where it leads if it doesn't, and its end
pub record IsPiece (p : List ℕ) (at : ℕ) (turning : Option Turning) (course : Option Course) (end : ℕ) : Type 0 where
  pub turns : turning_of (word_at p at) ≡ turning
  pub leads : course_of (word_at p at) ≡ course
  pub ends : word_end p at ≡ end

-- words that turn stand at a place, and then one that doesn't, which leads somewhere or nowhere
abbrev pub HeadingAt : List ℕ → ℕ → List Turning → Option Course → ℕ → Type 0
HeadingAt p at [] course end =
    (turning_of (word_at p at) ≡ None) × (course ≡ course_of (word_at p at)) × (end ≡ word_end p at)
HeadingAt p at (t ∷ ts) course end =
    (turning_of (word_at p at) ≡ Some t) × HeadingAt p (word_end p at) ts course end

-- a direction stands at a place and ends before another
abbrev pub DirectionAt : List ℕ → ℕ → Heading → ℕ → Type 0
DirectionAt p at h end = HeadingAt p at h.turns h.course end

-- a direction has turns, which are kept in memory
abbrev pub HeadingKeeps : Heading → Type 0
HeadingKeeps h = 0 < length h.turns

-- reading the direction at a place takes memory
abbrev pub DirectionTakes : List ℕ → ℕ → Type 0
DirectionTakes p at = (h : Heading) × ((end : ℕ) × (DirectionAt p at h end × HeadingKeeps h))
