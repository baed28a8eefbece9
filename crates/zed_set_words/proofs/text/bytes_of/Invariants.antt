use Rattle.std.proofs.Common.{◌≡◌, ◌++◌, drop, length}
use Rattle.std.specs.List.{filter_map}
use Rattle.std.specs.Str.{chars}
use Rattle.zed_plaintext.specs.Characters.{byte_of}
use Rattle.zed_set_words.specs.Strings.{bytes_in}
use Rattle.zed_set_words.proofs.text.bytes_of.Given as goal

-- the bytes so far, and those of the characters that are left
abbrev pub invariant-loop-character : goal.invariant-loop-character
invariant-loop-character l = l.bytes.items ++ filter_map byte_of (drop (length l.yielded) (chars l.word)) ≡ bytes_in l.word
