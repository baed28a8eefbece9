use Rattle.std.proofs.Common.{codes}
use Rattle.std.proofs.lemmas.Result.{IfOk-weaker}
use Rattle.cmd_page.specs.Boards.{drawn, heading, section}
use Rattle.cmd_page.specs.Programs.{programs}
use Rattle.cmd_page.proofs.Adding.{adds}
use Rattle.cmd_page.proofs.boards.put_section.Goals as goal

pub returns : goal.returns
unfolding section
returns c =
    let board = c.args.board.now in
    let shown = adds _ _ _ (heading c.args.number board) (drawn board) c.in_ok-put_heading.ensures c.in_ok-put_drawn.ensures in
    let told = adds _ _ _ _ (programs board 0 board.stats) shown c.in_ok-put_programs.ensures in
    IfOk-weaker c.put_text.result _ _ (λ r h. adds _ _ _ _ (codes "</section>\n") told h) c.put_text.ensures
