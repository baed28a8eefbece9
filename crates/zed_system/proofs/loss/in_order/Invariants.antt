use Rattle.std.proofs.Common.{◌≡◌}
use Rattle.zed_op.specs.Set.{IsRising, set_of, union}
use Rattle.zed_system.proofs.loss.in_order.Given as goal

-- the set so far, and what is to come, come to the set of all
abbrev pub invariant-loop-edit : goal.invariant-loop-edit
invariant-loop-edit l = IsRising l.history × (union l.history l.edit-iterator.rest.items ≡ set_of l.fn.edits.items)
