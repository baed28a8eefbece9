use Rattle.zed_document.proofs.Fronts.{IsGoing}
use Rattle.zed_document.proofs.many.deliver_each.Given as goal

-- all before were delivered
abbrev pub invariant-loop-edit : goal.invariant-loop-edit
invariant-loop-edit l = IsGoing l.fn.intake l.fn.edits.items l.intake l.edit-iterator.rest.items
