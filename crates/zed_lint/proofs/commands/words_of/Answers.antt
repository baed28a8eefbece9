use Rattle.std.proofs.Common.{◌≡◌, ◌<◌, length, get_or, sym}
use Rattle.std.proofs.lemmas.Result.{err_from_is_err_and}
use Rattle.zed_lint.specs.Commands.{board_bytes}
use Rattle.zed_lint.proofs.Some.{read_member}
use Rattle.zed_lint.proofs.commands.words_of.Goals as goal

pub returns-in_err-keep_stats-clause-memory_only_when : goal.returns-in_err-keep_stats-clause-memory_only_when
returns-in_err-keep_stats-clause-memory_only_when c =
    let p = err_from_is_err_and c.from_residual.result c.from_residual.ensures.1 in
    let is : get_or c.args.boards.now c.loop-board.board-index c.board-item.result ≡ c.board-item.result = sym c.board-item.is in
    let some : 0 < length (board_bytes c.board-item.result) = rw c.as_slice.ensures at c.in_err-keep_stats.ensures.memory_only_when in
    rw p.1 (read_member board_bytes c.loop-board.board-index c.args.boards.now c.board-item.result c.loop-board-test.true is some)
