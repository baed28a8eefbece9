use Rattle.std.specs.Prelude.{codes}
use Rattle.cmd_take.specs.Note.{and_counted, board_told, counted, counts_line}
use Rattle.cmd_take.proofs.Putting.{puts_seven}
use Rattle.cmd_take.proofs.note.put_counts.Goals as goal

pub returns : goal.returns
unfolding counts_line
returns c =
    let n = c.args.counts.now in
    puts_seven c.put_text-2.result c.args.out.now.items (board_told c.args.number c.args.name.now) (codes ": ") (counted n.cells (codes "cell") (codes "cells"))
    (and_counted n.properties (codes "property") (codes "properties")) (and_counted n.stats (codes "stat") (codes "stats")) (and_counted n.programs (codes "program") (codes "programs")) (codes "\n")
    _ _ _ _ _ _ _ c.in_ok-put_board.ensures c.in_ok-put_text.ensures c.in_ok-put_counted.ensures c.in_ok-put_and_counted.ensures c.in_ok-put_and_counted-2.ensures
    c.in_ok-put_and_counted-3.ensures c.put_text-2.ensures
