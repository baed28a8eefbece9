use Rattle.std.proofs.Common.{◌<◌, length, subst}
use Rattle.std.proofs.lemmas.Result.{err_from_is_err_and}
use Rattle.zed_terminal.specs.Record.{listed}
use Rattle.zed_terminal.proofs.Spelling.{read_more, some_of}
use Rattle.zed_terminal.proofs.record.moves_in.Goals as goal

pub loop-byte-preserved : goal.loop-byte-preserved
loop-byte-preserved c =
    let l = c.loop-byte in
    read_more l.spelt c.args.bytes.now l.byte-index 0 l.moves.items c.put_made.new.out.items _ c.read-step.result c.loop-byte-test.true c.read-step.ensures
    c.in_ok-put_made.ensures.ok l.invariant

-- a move that wants room is one of all
pub returns-in_err-put_made-clause-memory_only_when : goal.returns-in_err-put_made-clause-memory_only_when
returns-in_err-put_made-clause-memory_only_when c =
    let l = c.loop-byte in
    let p = err_from_is_err_and c.from_residual.result c.from_residual.ensures.1 in
    rw p.1 (some_of l.spelt c.args.bytes.now l.byte-index 0 l.moves.items _ c.read-step.result c.loop-byte-test.true c.read-step.ensures
    l.invariant c.in_err-put_made.ensures.memory_only_when)
