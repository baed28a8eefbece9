use Rattle.std.proofs.Common.{◌≡◌, ◌+◌, drop}
use Rattle.std.specs.Prelude.{sum_by}
use Rattle.cmd_take.specs.Changes.{boards_removed}
use Rattle.cmd_take.proofs.changes.removals.Given as goal

-- those counted, with those of the rest, are all
abbrev pub invariant-loop-edit : goal.invariant-loop-edit
invariant-loop-edit l = l.count + sum_by (λ e. boards_removed e.op) (drop l.edit-index l.edits) ≡ sum_by (λ e. boards_removed e.op) l.edits
