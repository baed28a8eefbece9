-- The first line: how many edits only one side has, whose they are, how many of them are held, and how many lines follow.
use Rattle.std.specs.Prelude.{zero, suc, List, [], ◌∷◌, ℕ, ◌++◌, codes}
use Rattle.std.specs.List.{flat_map}
use Rattle.zed_log.specs.Fields.{number}
use Rattle.zed_report.specs.Lines.{counted}

-- an author behind the first one
unfoldable pub next_author : ℕ → List ℕ
next_author r = codes ", " ++ number r

-- the authors of some edits
unfoldable pub authors : List ℕ → List ℕ
authors [] = []
authors (r ∷ rs) = codes " of " ++ number r ++ flat_map next_author rs

-- how many are held, if any are
abbrev pub held_words : ℕ → List ℕ
held_words zero = []
held_words (suc n) = codes " (" ++ number (suc n) ++ codes " held)"

-- those of a side
unfoldable pub edits_words : ℕ → List ℕ → ℕ → List ℕ
edits_words edits replicas held = codes ": " ++ counted edits (codes "edit") ++ authors replicas ++ held_words held

-- how many lines follow
abbrev pub lines_words : ℕ → List ℕ
lines_words zero = codes "; nothing is overridden"
lines_words (suc n) = codes "; " ++ number (suc n) ++ codes " to look at"

-- the line, by the words of both sides
unfoldable pub first_line : List ℕ → List ℕ → ℕ → List ℕ
first_line mine theirs lines = codes "mine" ++ mine ++ codes "; theirs" ++ theirs ++ lines_words lines ++ 10 ∷ []
