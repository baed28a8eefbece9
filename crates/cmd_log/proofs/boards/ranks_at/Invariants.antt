use Rattle.std.proofs.Common.{◌≡◌, map, take}
use Rattle.zed_view.specs.View.{board_at}
use Rattle.cmd_log.proofs.boards.ranks_at.Given as goal

abbrev pub invariant-loop-i : goal.invariant-loop-i
invariant-loop-i l = l.ranks.items ≡ map (λ i. (board_at l.view i).properties.rank) (take l.i-index l.places)
