use Rattle.std.proofs.Common.{◌≡◌, ap}
use Rattle.zed_edit.specs.declared.plain.Board.{Board}
use Rattle.zed_view.specs.View.{board_at}
use Rattle.cmd_take.proofs.Counting.{counted_so}
use Rattle.cmd_take.proofs.changes.counts_of.Goals as goal

pub returns : goal.returns
returns c =
    let named : c.board.result.0 ≡ (board_at c.args.view.now c.args.i).id = ap (λ (b : Board). b.id) c.board.ensures in
    counted_so (board_at c.args.view.now c.args.i) c.args.edits.now c.board.result.0 c.in_ok-cells.cells c.properties_in.result c.added_in.result c.changed_in.result c.in_ok-stats.stats
    c.programs_in.result c.in_ok-stats.ensures c.added_in.ensures c.changed_in.ensures c.in_ok-cells.ensures c.properties_in.ensures c.programs_in.ensures named
