use Rattle.std.proofs.lemmas.Result.{err_from_is_err_and}
use Rattle.zed_play.specs.declared.key.Key.TheVariants.{Wait}
use Rattle.zed_terminal.specs.declared.moves.Move.TheVariants.{Key}
use Rattle.zed_terminal.specs.Record.{spelled_move}
use Rattle.zed_terminal.proofs.Room.{some_of}
use Rattle.zed_terminal.proofs.record.put_moves.Goals as goal

-- a move that wants room is one of all
pub returns-in_err-put_move-clause-memory_only_when : goal.returns-in_err-put_move-clause-memory_only_when
returns-in_err-put_move-clause-memory_only_when c =
    let p = err_from_is_err_and c.from_residual.result c.from_residual.ensures.1 in
    rw p.1 (some_of spelled_move c.args.moves.now c.loop-made.made-index (Key Wait) c.loop-made-test.true c.in_err-put_move.ensures.some)
