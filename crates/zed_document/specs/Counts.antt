-- How often runs of texts were looked at, text by text.
use Rattle.std.specs.Prelude.{◌≤◌, ℕ, ◌-◌, min, map, sum_by, Option, Some, None}
use Rattle.zed_types.specs.declared.names.TextId.{TextId}
use Rattle.zed_texts.specs.Looks.{greatest_sum}
use Rattle.zed_texts.specs.ByName.{ByName, text_in}
use Rattle.zed_texts.specs.Texts.{Texts}

-- counts, each under the name of its text
abbrev pub Counts : Type 0
Counts = ByName ℕ

-- the counts of texts
abbrev pub counts_of : Texts → Counts
counts_of ts = map (λ y. (y.0, y.1.visits)) ts

-- a count that may be there, and else 0
abbrev pub or_zero : Option ℕ → ℕ
or_zero None = 0
or_zero (Some n) = n

-- the count of a text, 0 where there is none of its name
abbrev pub count_of : TextId → Counts → ℕ
count_of t xs = or_zero (text_in t xs)

-- the sum of all
abbrev pub total : Counts → ℕ
total xs = sum_by (λ x. x.1) xs

-- the same, as far as the sum that is kept has room
abbrev pub capped : Counts → ℕ
capped xs = min (total xs) greatest_sum

-- the sum of what each text has more than before, where one that is new had 0
abbrev pub added : Counts → Counts → ℕ
added old new = sum_by (λ x. x.1 - count_of x.0 old) new

-- no text has a count lower than before
abbrev pub NoCountFalls : Counts → Counts → Type 0
NoCountFalls old new = (t : TextId) → count_of t old ≤ count_of t new
