use Rattle.std.proofs.Common.{◌≡◌, ◌++◌, map, option_map, drop}
use Rattle.zed_tool_words.specs.Commands.{stamps_in}
use Rattle.zed_tool_words.proofs.undone.stamps_of.Given as goal

abbrev pub invariant-loop-word : goal.invariant-loop-word
invariant-loop-word l =
    option_map (λ rest. l.stamps.items ++ rest) (stamps_in (map (λ s. s.now) (drop l.word-index l.fn.words)))
    ≡ stamps_in (map (λ s. s.now) l.fn.words)
