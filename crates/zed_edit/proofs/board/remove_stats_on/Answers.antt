use Rattle.std.proofs.Common.{arith}
use Rattle.zed_types.specs.Names.{same_stat}
use Rattle.zed_types.proofs.Facts.{map_over_at}
use Rattle.zed_edit.specs.Board.{change_stats}
use Rattle.zed_edit.specs.Document.{change_such}
use Rattle.zed_edit.specs.Stat.{remove_stat}
use Rattle.zed_edit.proofs.board.remove_stats_on.Goals as goal

pub loop-x-preserved : goal.loop-x-preserved
loop-x-preserved c =
    map_over_at (change_stats (change_such (λ x. same_stat x.id c.args.s) remove_stat)) c.args.boards.now c.loop-x.boards c.loop-x.x-index c.x-item.result c.remove_stats_of.new.board (omega arith) c.loop-x.auto.boards c.loop-x.invariant c.remove_stats_of.ensures
