use Rattle.std.proofs.Common.{◌≡◌, ◌++◌, take, drop, map}
use Rattle.zed_types.specs.Names.{same_stat}
use Rattle.zed_edit.specs.Board.{change_stats}
use Rattle.zed_edit.specs.Stat.{set_stat}
use Rattle.zed_edit.specs.Document.{change_such}
use Rattle.zed_edit.proofs.board.set_stats_on.Given as goal

abbrev pub invariant-loop-x : goal.invariant-loop-x
invariant-loop-x l =
    l.boards ≡ map (change_stats (change_such (λ x. same_stat x.id l.s) (set_stat l.setting))) (take l.x-index l.initial.boards) ++ drop l.x-index l.initial.boards
