use Rattle.std.proofs.Common.{◌≡◌, drop, length}
use Rattle.std.specs.Str.{chars}
use Rattle.zed_set_words.specs.Strings.{are_bytes}
use Rattle.zed_set_words.proofs.text.are_bytes.Given as goal

-- what is told of the characters that are left is told of all
abbrev pub invariant-loop-character : goal.invariant-loop-character
invariant-loop-character l = are_bytes l.left (drop (length l.yielded) (chars l.word)) ≡ are_bytes l.fn.most (chars l.word)
