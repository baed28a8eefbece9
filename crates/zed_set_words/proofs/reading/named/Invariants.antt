use Rattle.std.proofs.Common.{◌≡◌, drop}
use Rattle.zed_set_words.specs.Readers.{named as named_in, rows_of}
use Rattle.zed_set_words.proofs.reading.named.Given as goal

-- what the rows that are left have beside the word, the whole table has
abbrev pub invariant-loop-row : goal.invariant-loop-row
invariant-loop-row g l = named_in (rows_of (drop l.row-index l.rows)) l.word ≡ named_in (rows_of l.rows) l.word
