use Rattle.zed_inbox.proofs.Halfway.{IsHalfOff}
use Rattle.zed_inbox.proofs.index.unlist.Given as goal

abbrev pub invariant-loop-thing : goal.invariant-loop-thing
invariant-loop-thing l = IsHalfOff l.edit l.thing-iterator l.fn.waits.keys l.waits.keys
