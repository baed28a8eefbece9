-- Words that a caller lends, and tables of words.
use Rattle.std.specs.Prelude.{List, map, Option, option_map}
use Rattle.std.specs.Borrow.{Bor}
use Rattle.std.specs.List.{find}
use Rattle.std.specs.Str.{bytes_eq}
use Rattle.zed_set_words.specs.Values.{Word}

-- the words that a caller lends
abbrev pub words_of : List (Bor Word) → List Word
words_of = map (λ s. s.now)

-- the rows of a table, each a word and what stands beside it
abbrev pub rows_of : {A : Type 0} → List (Bor Word × A) → List (Word × A)
rows_of = map (λ r. (r.0.now, r.1))

-- what a table has beside a word
abbrev pub named : {A : Type 0} → List (Word × A) → Word → Option A
named rows word = option_map (λ r. r.1) (find (λ r. bytes_eq word r.0) rows)

-- a row of a table
abbrev pub row : {A : Type 0} → Word → A → Word × A
row word x = (word, x)
