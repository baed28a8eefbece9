use Rattle.std.proofs.Common.{◌≡◌, false, take}
use Rattle.zed_op.specs.Set.{union}
use Rattle.zed_document.specs.Counts.{NoCountFalls}
use Rattle.zed_document.proofs.Copies.{HasGrown}
use Rattle.zed_document.proofs.many.deliver_copies.Given as goal

-- all before are there
abbrev pub invariant-loop-edit : goal.invariant-loop-edit
invariant-loop-edit l = record {
  edits : l.intake.edits ≡ union l.fn.intake.edits (take l.edit-index l.other);
  grown : HasGrown l.fn.intake l.intake;
  world : l.intake.world ≡ l.fn.intake.world;
  sound : l.intake.is_stale ≡ false;
  falls : NoCountFalls l.fn.intake.counts l.intake.counts;
}
