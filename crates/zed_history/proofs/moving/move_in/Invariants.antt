use Rattle.std.proofs.Common.{◌≡◌, length, vec_capacity}
use Rattle.zed_op.specs.Set.{union}
use Rattle.zed_history.proofs.Opened.{IsMoving}
use Rattle.zed_history.proofs.moving.move_in.Given as goal

abbrev pub invariant-loop-edit : goal.invariant-loop-edit
invariant-loop-edit l = record {
  moving : IsMoving (union l.fn.log.items l.fn.edits.items) l.log.items l.edits.items l.place;
  room : vec_capacity l.log ≡ vec_capacity l.fn.log;
}

abbrev pub decreases-loop-edit : goal.decreases-loop-edit
decreases-loop-edit l = length l.edits.items
