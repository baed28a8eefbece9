use Rattle.std.proofs.Common.{sym}
use Rattle.zed_edit.specs.Replay.{replay}
use Rattle.cmd_set.specs.Deeds.{board_deed, kept_in_board}
use Rattle.cmd_set.proofs.Coming.{then_comes}
use Rattle.cmd_set.proofs.deed.deed_at_board.Goals as goal

pub returns : goal.returns
returns c =
    then_comes (kept_in_board c.args.wish) _ c.in_ok-board.board (λ b. board_deed (replay c.args.document.now.edits) b c.args.wish) c.board_deed.result
    (sym c.in_ok-board.ensures) c.board_deed.ensures
