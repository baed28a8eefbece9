-- How many lines a text has.
use Rattle.std.proofs.Common.{◌≡◌, ℕ, List}
use Rattle.std.specs.Prelude.{◌==◌}
use Rattle.std.specs.List.{count_by}
use Rattle.std.proofs.lemmas.List.Sums.{length-filter}
use Rattle.zed_log.specs.ListLaws.{lines_in}

-- lines are what is counted
pub lines_counted : (text : List ℕ) → lines_in text ≡ count_by (λ c. c == 10) text
lines_counted text = length-filter (λ c. c == 10) text
