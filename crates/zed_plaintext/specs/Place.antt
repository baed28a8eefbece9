-- Places in a text.
use Rattle.std.specs.Prelude.{ℕ, ◌+◌, ◌==◌, not, List, length, filter}
use Rattle.std.specs.List.{suffix_len}
use Rattle.zed_plaintext.specs.declared.error.BadText.{BadText}

-- the place behind these characters, of which line feeds (10) end the lines; the first line and the first column have the number 1
unfoldable pub place_behind : List ℕ → BadText
place_behind front = record {
  line = length (filter (λ c. c == 10) front) + 1;
  column = suffix_len (λ c. not (c == 10)) front + 1;
}
