use Rattle.std.proofs.lemmas.Result.{err_from_is_err_and}
use Rattle.zed_lint.specs.Tiles.{tile_findings}
use Rattle.zed_lint.proofs.Some.{member_at}
use Rattle.zed_lint.proofs.tiles.note_each.Goals as goal

pub returns-in_err-note_tile-clause-memory_only_when : goal.returns-in_err-note_tile-clause-memory_only_when
returns-in_err-note_tile-clause-memory_only_when c =
    let p = err_from_is_err_and c.from_residual.result c.from_residual.ensures.1 in
    rw p.1 (member_at (tile_findings c.args.number c.args.board.now) c.loop-i.i c.args.tiles.now _ c.loop-i-test.true c.in_err-note_tile.ensures.memory_only_when)
