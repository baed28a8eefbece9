use Rattle.std.proofs.Common.{◌≡◌, ◌++◌, List}
use Rattle.zed_op.specs.declared.op.Edit.{Edit}
use Rattle.zed_document.specs.Counts.{NoCountFalls}
use Rattle.zed_link.specs.Pull.{AllDelivered}
use Rattle.zed_link.specs.Tally.{states, tally}
use Rattle.zed_link.proofs.receiving.deliver_each.Given as goal

-- all before were delivered and counted, and no count of looks fell
abbrev pub invariant-loop-edit : goal.invariant-loop-edit
invariant-loop-edit l = record {
  done : List Edit;
  whole : l.fn.edits.items ≡ done ++ l.edit-iterator.rest.items;
  all : AllDelivered l.fn.intake done l.intake.edits;
  counted : l.pulled ≡ tally (states l.fn.intake.edits done);
  world : l.intake.world ≡ l.fn.intake.world;
  sound : l.intake.is_stale ≡ l.fn.intake.is_stale;
  falls : NoCountFalls l.fn.intake.counts l.intake.counts;
}
