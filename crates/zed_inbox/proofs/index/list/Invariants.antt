use Rattle.zed_inbox.proofs.Halfway.{IsHalf}
use Rattle.zed_inbox.proofs.index.list.Given as goal

abbrev pub invariant-loop-thing : goal.invariant-loop-thing
invariant-loop-thing l = IsHalf l.edit l.thing-iterator l.fn.waits.keys l.waits.keys
