use Rattle.std.proofs.Common.{◌≤◌, ◌+◌, length}
use Rattle.zed_op.specs.Set.{AllFit}
use Rattle.zed_delivery.specs.Stirring.{Stirs}
use Rattle.zed_delivery.specs.Waking.{AreWoken}
use Rattle.zed_delivery.proofs.body.Body.wake_all.Given as goal

-- what is woken so far, with what is left to wake
abbrev pub invariant-loop-thing : goal.invariant-loop-thing
invariant-loop-thing l = record {
  woken : AreWoken l.fn.things.items l.fn.self l.fn.done.items l.thing-iterator.rest.items l.self l.done.items;
  fit : AllFit l.fn.done.items → AllFit l.done.items;
  texts : Stirs 0 l.fn.self l.self;
  few : length l.self.inbox + length l.done.items ≤ length l.fn.self.inbox + length l.fn.done.items;
}
