use Rattle.std.proofs.Common.{◌≡◌, ◌∙◌, ap, sym}
use Rattle.zed_edit.specs.Numbers.{board_numbered}
use Rattle.zed_edit.specs.Replay.{replay}
use Rattle.zed_session.proofs.Given.{lack_by, lack_named}
use Rattle.zed_session.proofs.boards.lack.Goals as goal

-- there is such a board
pub returns-in-Some : goal.returns-in-Some
returns-in-Some c =
    let d = c.args.document.now in
    let told : c.unwrap_or.result ≡ board_numbered (replay d.edits) c.args.board =
    rw (c.board.ensures, c.requires) at c.unwrap_or.ensures in
    ap lack_by (sym c.in-Some.is ∙ told) ∙ lack_named (replay d.edits) c.args.board (c.replay_is_ordered.ensures d.edits c.edits.ensures.rising)

-- there is none
pub returns-in-None : goal.returns-in-None
returns-in-None c =
    let d = c.args.document.now in
    let told : c.unwrap_or.result ≡ board_numbered (replay d.edits) c.args.board =
    rw (c.board.ensures, c.requires) at c.unwrap_or.ensures in
    ap lack_by (sym c.in-None.is ∙ told) ∙ lack_named (replay d.edits) c.args.board (c.replay_is_ordered.ensures d.edits c.edits.ensures.rising)
