use Rattle.std.proofs.Common.{◌∙◌, length, sym, arith}
use Rattle.std.specs.Str.{chars}
use Rattle.std.proofs.lemmas.Iterator.{YieldsList-from_chars}
use Rattle.std.proofs.lemmas.Iterator.Consumers.{YieldsList-end, YieldsList-turn}
use Rattle.std.proofs.lemmas.List.{length_push}
use Rattle.std.proofs.lemmas.Result.{err_from_is_err_and}
use Rattle.zed_set_words.specs.Strings.{bytes_in}
use Rattle.zed_set_words.proofs.Characters.{byte_more, byte_none, byte_there, bytes_end}
use Rattle.zed_set_words.proofs.text.bytes_of.Goals as goal

pub loop-character-preserved : goal.loop-character-preserved
loop-character-preserved c =
    let t = YieldsList-turn (YieldsList-from_chars c.args.word.now c.utf8.word cc) c.loop-character.yielded _ c.loop-character.yielded_by _ _ c.in-Some.character c.in-Some.is c.next.ensures.steps in
    let more = byte_none (chars c.args.word.now) (length c.loop-character.yielded) c.in-Some.character c.loop-character.bytes.items t (sym c.byte_of.ensures ∙ c.in_default.is) in
    rw (length_push c.loop-character.yielded c.in-Some.character) (more ∙ c.loop-character.invariant)

pub loop-character-preserved-in-Continue-1 : goal.loop-character-preserved-in-Continue-1
loop-character-preserved-in-Continue-1 c =
    let t = YieldsList-turn (YieldsList-from_chars c.args.word.now c.utf8.word cc) c.loop-character.yielded _ c.loop-character.yielded_by _ _ c.in-Some.character c.in-Some.is c.next.ensures.steps in
    let more = byte_more (chars c.args.word.now) (length c.loop-character.yielded) c.in-Some.character c.in-Some-byte_of.byte c.loop-character.bytes.items t (sym c.byte_of.ensures ∙ c.in-Some-byte_of.is) in
    rw (c.in_ok-push.ensures.items, length_push c.loop-character.yielded c.in-Some.character) (more ∙ c.loop-character.invariant)

pub returns-in_err-push-clause-memory_only_when : goal.returns-in_err-push-clause-memory_only_when
returns-in_err-push-clause-memory_only_when c =
    let t = YieldsList-turn (YieldsList-from_chars c.args.word.now c.utf8.word cc) c.loop-character.yielded _ c.loop-character.yielded_by _ _ c.in-Some.character c.in-Some.is c.next.ensures.steps in
    let p = err_from_is_err_and c.from_residual.result c.from_residual.ensures.1 in
    rw p.1 (byte_there (chars c.args.word.now) (length c.loop-character.yielded) c.in-Some.character c.in-Some-byte_of.byte c.loop-character.bytes.items (bytes_in c.args.word.now) t
    (sym c.byte_of.ensures ∙ c.in-Some-byte_of.is) c.loop-character.invariant)

pub returns-clause-ok : goal.returns-clause-ok
returns-clause-ok c =
    let t = YieldsList-end (YieldsList-from_chars c.args.word.now c.utf8.word cc) c.loop-character.yielded _ c.loop-character.yielded_by _ _ c.in-None.is c.next.ensures.steps in
    c.new.ensures ∙ bytes_end (chars c.args.word.now) (length c.loop-character.yielded) c.loop-character.bytes.items (bytes_in c.args.word.now) (omega (arith, t.1)) c.loop-character.invariant
