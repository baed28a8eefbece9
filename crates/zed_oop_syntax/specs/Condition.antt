-- Conditions as a program writes them.
use Rattle.std.specs.Prelude.{◌≡◌, ℕ, ◌<◌, Bool, true, false, not, ◌||◌, List, length, Option, Some, None, codes}
use Rattle.std.specs.Str.{bytes_eq}
use Rattle.zed_oop_syntax.specs.declared.conditions.Query.{Query}
use Rattle.zed_oop_syntax.specs.declared.conditions.Test.{Test}
use Rattle.zed_oop_syntax.specs.declared.conditions.Test.TheVariants.{Aligned, Contact, Blocked, Any, Energized, Flag}
use Rattle.zed_oop_syntax.specs.Text.{word_at, word_end}
use Rattle.zed_oop_syntax.specs.Heading.{DirectionAt, HeadingKeeps}
use Rattle.zed_oop_syntax.specs.Kind.{kind_at}

-- whether a word is one that begins a condition, and no flag
unfoldable pub is_question : List ℕ → Bool
is_question w =
    bytes_eq w (codes "NOT") || bytes_eq w (codes "ALLIGNED") || bytes_eq w (codes "CONTACT")
    || bytes_eq w (codes "BLOCKED") || bytes_eq w (codes "ANY") || bytes_eq w (codes "ENERGIZED")

-- a test stands behind its word, which ends at a place, and ends before another: a row each
abbrev pub TestBehind : List ℕ → List ℕ → ℕ → Test → ℕ → Type 0
TestBehind p w at Aligned end = (w ≡ codes "ALLIGNED") × (end ≡ at)
TestBehind p w at Contact end = (w ≡ codes "CONTACT") × (end ≡ at)
TestBehind p w at (Blocked h) end = (w ≡ codes "BLOCKED") × DirectionAt p at h end
TestBehind p w at (Any k) end = (w ≡ codes "ANY") × (kind_at p at true ≡ (k, end))
TestBehind p w at Energized end = (w ≡ codes "ENERGIZED") × (end ≡ at)
TestBehind p w at (Flag word) end = (is_question w ≡ false) × (word ≡ w) × (end ≡ at)

-- a test, or NOT, stands behind its word
abbrev pub PartBehind : List ℕ → List ℕ → ℕ → Option Test → ℕ → Type 0
PartBehind p w at None end = (w ≡ codes "NOT") × (end ≡ at)
PartBehind p w at (Some t) end = TestBehind p w at t end

-- a test, or NOT, stands at a place and ends before another
abbrev pub PartAt : List ℕ → ℕ → Option Test → ℕ → Type 0
PartAt p at part end = PartBehind p (word_at p at) (word_end p at) part end

-- a condition stands at a place and ends before another
pub data ConditionAt (p : List ℕ) : ℕ → Bool → Test → ℕ → Type 0 where
  plain : (at : ℕ) (t : Test) (end : ℕ) → PartAt p at (Some t) end → ConditionAt p at false t end
  negation : (at : ℕ) (negated : Bool) (t : Test) (mid end : ℕ) → PartAt p at None mid → ConditionAt p mid negated t end
      → ConditionAt p at (not negated) t end

-- a truth, turned where there is one NOT more or an odd number of them
abbrev pub flipped : Bool → Bool → Bool
flipped true b = not b
flipped false b = b

-- a condition as a program writes it stands at a place and ends before another
abbrev pub QueryAt : List ℕ → ℕ → Query → ℕ → Type 0
QueryAt p at q end = ConditionAt p at q.negated q.test end

-- a test has turns, or the word of a flag, which are kept in memory
abbrev pub TestKeeps : Test → Type 0
TestKeeps (Blocked h) = HeadingKeeps h
TestKeeps (Flag word) = 0 < length word
TestKeeps _ = ⊥

-- reading the test behind a word, which ends at a place, takes memory
abbrev pub TestTakes : List ℕ → List ℕ → ℕ → Type 0
TestTakes p w at = (t : Test) × ((end : ℕ) × (TestBehind p w at t end × TestKeeps t))

-- reading the condition at a place takes memory
abbrev pub QueryTakes : List ℕ → ℕ → Type 0
QueryTakes p at = (q : Query) × ((end : ℕ) × (QueryAt p at q end × TestKeeps q.test))
