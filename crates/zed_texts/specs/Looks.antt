-- How many runs of texts were looked at.
use Rattle.std.specs.Prelude.{ℕ, min}
use Rattle.std.specs.List.{sum_by}
use Rattle.zed_texts.specs.Texts.{Texts}

-- the greatest sum of counts that is kept
abbrev pub greatest_sum : ℕ
greatest_sum = 340282366920938463463374607431768211455

-- the counts of all texts together, as far as the sum has room: that of fewer than 2^64 texts always has
abbrev pub looks_of : Texts → ℕ
looks_of ys = min (sum_by (λ y. y.1.visits) ys) greatest_sum
