use Rattle.std.proofs.Common.{◌≤◌, ◌+◌, length}
use Rattle.zed_op.specs.Set.{AllFit}
use Rattle.zed_delivery.specs.Settling.{AreSettled}
use Rattle.zed_delivery.specs.Stirring.{Stirs}
use Rattle.zed_delivery.proofs.body.Body.settle.Given as goal

-- what was woken so far, with what is left to wake
abbrev pub invariant-loop-edit : goal.invariant-loop-edit
invariant-loop-edit l = record {
  settled : AreSettled l.fn.done.items l.fn.self l.rest.items l.self;
  fit : AllFit l.rest.items;
  texts : Stirs 0 l.fn.self l.self;
  few : length l.self.inbox + length l.rest.items ≤ length l.fn.self.inbox + length l.fn.done.items;
}

-- each turn one edit less waits or is still to be followed
abbrev pub decreases-loop-edit : goal.decreases-loop-edit
decreases-loop-edit l = length l.self.inbox + length l.rest.items
