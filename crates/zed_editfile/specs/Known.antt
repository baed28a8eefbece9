-- Whether bytes begin with a text, and what stands behind it.
use Rattle.std.specs.Prelude.{◌≡◌, List, ℕ, ◌++◌, Option, MatchOption}
use Rattle.std.specs.Prelude.{[], None, is_some, true}
use denote.Ref.{Bor}
use Rattle.zed_editfile.specs.Stream.{Progress}

-- the bytes don't begin with the text
abbrev pub Lacks : List ℕ → List ℕ → Type 0
Lacks text bytes = (rest : List ℕ) → bytes ≡ text ++ rest → ⊥

-- what stands in bytes behind a text with which they begin, and nothing where they don't
abbrev pub Past : List ℕ → List ℕ → Option (Bor (List ℕ)) → Type 0
Past text bytes left = MatchOption left (Lacks text bytes) (λ x. bytes ≡ text ++ x.now)

-- a reader stands between two records, or before the first or behind the last
abbrev pub IsBetween : Progress → Type 0
IsBetween p = (is_some p.world ≡ true) × (p.rest ≡ []) × (p.fault ≡ None)
