use Rattle.std.proofs.Common.{◌≡◌, ◌+◌, drop}
use Rattle.std.specs.Prelude.{sum_by}
use Rattle.cmd_take.specs.Changes.{cells_set}
use Rattle.cmd_take.proofs.changes.cells_in.Given as goal

-- the cells counted, with those of the rest, are all
abbrev pub invariant-loop-edit : goal.invariant-loop-edit
invariant-loop-edit l =
    l.count + sum_by (λ e. cells_set l.board e.op) (drop l.edit-index l.edits) ≡ sum_by (λ e. cells_set l.board e.op) l.edits
