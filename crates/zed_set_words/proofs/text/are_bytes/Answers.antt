use Rattle.std.proofs.Common.{◌≡◌, ◌∙◌, true, length, drop, is_some, not, sym, ap, arith}
use Rattle.std.specs.Str.{chars}
use Rattle.std.proofs.lemmas.Iterator.{YieldsList-from_chars}
use Rattle.std.proofs.lemmas.Iterator.Consumers.{YieldsList-end, YieldsList-turn}
use Rattle.std.proofs.lemmas.List.{length_push}
use Rattle.zed_plaintext.specs.Characters.{is_known}
use Rattle.zed_set_words.specs.Strings.{are_bytes}
use Rattle.zed_set_words.proofs.Characters.{fit_end, fit_full, fit_more, fit_none}
use Rattle.zed_set_words.proofs.text.are_bytes.Goals as goal
use Rattle.zed_set_words.proofs.text.are_bytes.Goals.{then-left-eq0-via-then-left-eq0, then-left-eq0-via-else-left-eq0+then-is_none}

pub returns-then-left-eq0 : goal.returns-then-left-eq0
returns-then-left-eq0 c =
    let cs = chars c.args.word.now in
    let n = length c.loop-character.yielded in
    let t = YieldsList-turn (YieldsList-from_chars c.args.word.now c.utf8.word cc) c.loop-character.yielded _ c.loop-character.yielded_by _ _ c.in-Some.character c.in-Some.is c.next.ensures.steps in
    elim c.then-left-eq0.branch [
      | then-left-eq0-via-then-left-eq0 w ↦
          sym (fit_full cs n c.in-Some.character t) ∙ ap (λ m. are_bytes m (drop n cs)) (sym w.if-left-eq0.true) ∙ c.loop-character.invariant
      | then-left-eq0-via-else-left-eq0+then-is_none w ↦
          sym (fit_none cs n c.in-Some.character c.loop-character.left t (ap is_some (sym w.byte_of.ensures) ∙ w.is_none.ensures ∙ ap not w.if-is_none.true)) ∙ c.loop-character.invariant
    ]

pub loop-character-preserved : goal.loop-character-preserved
loop-character-preserved c =
    let t = YieldsList-turn (YieldsList-from_chars c.args.word.now c.utf8.word cc) c.loop-character.yielded _ c.loop-character.yielded_by _ _ c.in-Some.character c.in-Some.is c.next.ensures.steps in
    let known : is_known c.in-Some.character ≡ true = ap is_some (sym c.byte_of.ensures) ∙ c.is_none.ensures ∙ ap not c.if-is_none.false in
    let more = fit_more (chars c.args.word.now) (length c.loop-character.yielded) c.in-Some.character c.loop-character.left t known c.if-left-eq0.false in
    rw (length_push c.loop-character.yielded c.in-Some.character) (more ∙ c.loop-character.invariant)

pub returns : goal.returns
returns c =
    let t = YieldsList-end (YieldsList-from_chars c.args.word.now c.utf8.word cc) c.loop-character.yielded _ c.loop-character.yielded_by _ _ c.in-None.is c.next.ensures.steps in
    sym (fit_end (chars c.args.word.now) (length c.loop-character.yielded) c.loop-character.left (omega (arith, t.1))) ∙ c.loop-character.invariant
