use Rattle.std.proofs.Common.{◌≡◌, ◌≤◌, ℕ, ◌+◌, length}
use Rattle.zed_op.specs.Set.{AllFit}
use Rattle.zed_delivery.specs.Steps.{AreTried}
use Rattle.zed_delivery.specs.Stirring.{Stirs}
use Rattle.zed_delivery.proofs.body.Body.retry_all.Given as goal

-- what was tried so far, with what is left in hand
abbrev pub invariant-loop-edit : goal.invariant-loop-edit
invariant-loop-edit l = record {
  tried : AreTried l.fn.edits.items l.fn.self l.fn.done.items l.edit-iterator.rest.items l.self l.done.items;
  fit : AllFit l.fn.done.items → AllFit l.done.items;
  texts : (n : ℕ) × (n + length l.edit-iterator.rest.items ≡ length l.fn.edits.items) × Stirs n l.fn.self l.self;
  few : length l.self.inbox + (length l.done.items + length l.edit-iterator.rest.items) ≤ length l.fn.self.inbox + (length l.fn.done.items + length l.fn.edits.items);
}
