use Rattle.std.proofs.Common.{◌≡◌, get_or}
use Rattle.std.proofs.lemmas.Result.{err_from_is_err_and}
use Rattle.zed_lint.specs.Commands.{board_bytes}
use Rattle.zed_lint.specs.World.{board_findings}
use Rattle.zed_lint.proofs.Some.{wants_member}
use Rattle.zed_lint.proofs.linting.note_boards.Goals as goal

pub returns-in_err-note_board-clause-memory_only_when : goal.returns-in_err-note_board-clause-memory_only_when
returns-in_err-note_board-clause-memory_only_when c =
    let p = err_from_is_err_and c.from_residual.result c.from_residual.ensures.1 in
    let is : get_or c.args.boards.now c.loop-number.number c.index-boards-number.result ≡ c.index-boards-number.result =
    cc (c.index-boards-number.is) in
    rw p.1 (wants_member (board_findings c.args.held.now c.args.set.now) board_bytes c.loop-number.number c.args.boards.now c.index-boards-number.result c.loop-number-test.true is c.in_err-note_board.ensures.memory_only_when)
