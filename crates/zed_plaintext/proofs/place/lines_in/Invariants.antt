use Rattle.std.proofs.Common.{◌≡◌, ◌≤◌, length, take}
use Rattle.std.specs.Prelude.{◌==◌, filter}
use Rattle.zed_plaintext.proofs.place.lines_in.Given as goal

abbrev pub invariant-loop-character : goal.invariant-loop-character
invariant-loop-character l = record {
  counted : l.lines ≡ length (filter (λ c. c == 10) (take l.character-index l.front));
  within : l.lines ≤ l.character-index;
}
