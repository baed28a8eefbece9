use Rattle.std.proofs.Common.{◌≡◌, Some, take}
use Rattle.cmd_take.specs.Opening.{up_to}
use Rattle.cmd_take.proofs.opening.edits_up_to.Given as goal

-- the edits so far are copied that are not behind the last stamp
abbrev pub invariant-loop-edit : goal.invariant-loop-edit
invariant-loop-edit l = record {
  copied : l.copies.items ≡ up_to (Some l.last) (take l.edit-index l.edits);
}
