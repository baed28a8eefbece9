use Rattle.std.proofs.Common.{◌≡◌, ◌≤◌, not, take}
use Rattle.std.specs.Prelude.{◌==◌}
use Rattle.std.specs.List.{suffix_len}
use Rattle.zed_plaintext.proofs.place.last_line_len.Given as goal

abbrev pub invariant-loop-character : goal.invariant-loop-character
invariant-loop-character l = record {
  counted : l.len ≡ suffix_len (λ c. not (c == 10)) (take l.character-index l.front);
  within : l.len ≤ l.character-index;
}
