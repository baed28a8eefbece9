use Rattle.std.proofs.Common.{◌<◌, ◌+◌, arith, length, vec_len}
use Rattle.std.specs.Vec.{vec_capacity}
use Rattle.std.proofs.lemmas.Result.{err_from_is_err_and}
use Rattle.zed_terminal.specs.Record.{spelled, spelled_all}
use Rattle.zed_terminal.proofs.Room.{lacks_all}
use Rattle.zed_terminal.proofs.record.put_words.Goals as goal

-- where there is no room for a word, there was none for all
pub returns-in_err-put_word-clause-memory_only_when : goal.returns-in_err-put_word-clause-memory_only_when
returns-in_err-put_word-clause-memory_only_when c =
    let p = err_from_is_err_and c.from_residual.result c.from_residual.ensures.1 in
    let before = c.args.out.now in
    let out = c.loop-word.out in
    let here : vec_capacity out < length out.items + 2 = omega (arith, c.in_err-put_word.ensures.memory_only_when) in
    let none = lacks_all spelled c.args.words.now c.loop-word.word-index 0 before.items out.items (vec_capacity before) (vec_capacity out)
    c.loop-word-test.true c.loop-word.invariant.made c.loop-word.invariant.roomy here in
    let lacking : vec_capacity before < vec_len before + length (spelled_all c.args.words.now) = omega (arith, none) in
    rw p.1 lacking
