use Rattle.std.proofs.Common.{◌≡◌, ◌∙◌, sym}
use Rattle.zed_plaintext.specs.Characters.{byte_of}
use Rattle.zed_plaintext.proofs.Lists.{found, not_found}
use Rattle.zed_plaintext.proofs.characters.byte_of.Goals as goal

pub returns-then-text_character-character : goal.returns-then-text_character-character
unfolding byte_of
returns-then-text_character-character c =
    sym (found c.args.character c.loop-number.number c.text_character.result c.loop-number-test.true c.text_character.ensures c.if-text_character-character.true) ∙ c.loop-number.invariant

pub loop-number-preserved : goal.loop-number-preserved
loop-number-preserved c =
    sym (not_found c.args.character c.loop-number.number c.text_character.result c.loop-number-test.true c.text_character.ensures c.if-text_character-character.false) ∙ c.loop-number.invariant
