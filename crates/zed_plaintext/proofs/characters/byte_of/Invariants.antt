use Rattle.std.proofs.Common.{◌≡◌, ◌-◌}
use Rattle.zed_plaintext.specs.Characters.{first_of}
use Rattle.zed_plaintext.proofs.characters.byte_of.Given as goal

-- none of those so far is it
abbrev pub invariant-loop-number : goal.invariant-loop-number
invariant-loop-number l = first_of l.character l.number (256 - l.number) ≡ first_of l.character 0 256
