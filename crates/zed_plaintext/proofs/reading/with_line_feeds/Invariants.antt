use Rattle.std.proofs.Common.{◌≡◌, ◌++◌, drop}
use Rattle.zed_plaintext.specs.Reading.{fed_behind, line_fed}
use Rattle.zed_plaintext.proofs.reading.with_line_feeds.Given as goal

-- those so far, with what the rest comes to behind the last of them, are all
abbrev pub invariant-loop-character : goal.invariant-loop-character
invariant-loop-character l = l.fed.items ++ fed_behind l.before (drop l.character-index l.characters) ≡ line_fed l.characters
