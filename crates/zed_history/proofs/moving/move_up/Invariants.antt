use Rattle.std.proofs.Common.{◌≡◌, vec_capacity}
use Rattle.zed_history.proofs.Opened.{IsUp}
use Rattle.zed_history.proofs.moving.move_up.Given as goal

abbrev pub invariant-loop-stamp : goal.invariant-loop-stamp
invariant-loop-stamp l = record {
  up : IsUp l.stamp l.fn.log.items l.log.items l.at l.place l.by;
  capacity : vec_capacity l.log ≡ vec_capacity l.fn.log;
}

abbrev pub decreases-loop-stamp : goal.decreases-loop-stamp
decreases-loop-stamp l = l.at
