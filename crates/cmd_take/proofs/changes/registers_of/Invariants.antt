use Rattle.std.proofs.Common.{◌≡◌, ◌+◌, drop}
use Rattle.std.specs.Prelude.{sum_by}
use Rattle.cmd_take.specs.Changes.{registers_set}
use Rattle.cmd_take.proofs.changes.registers_of.Given as goal

-- those counted, with those of the rest, are all
abbrev pub invariant-loop-edit : goal.invariant-loop-edit
invariant-loop-edit l = l.count + sum_by (λ e. registers_set e.op) (drop l.edit-index l.edits) ≡ sum_by (λ e. registers_set e.op) l.edits
