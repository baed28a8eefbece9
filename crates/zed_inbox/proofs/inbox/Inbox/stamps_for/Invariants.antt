use Rattle.std.proofs.Common.{◌≡◌, ◌++◌}
use Rattle.zed_op.specs.Set.{stamps_of}
use Rattle.zed_inbox.specs.Waiting.{naming}
use Rattle.zed_inbox.proofs.Listing.{run}
use Rattle.zed_inbox.proofs.inbox.Inbox.stamps_for.Given as goal

abbrev pub invariant-loop-wait : goal.invariant-loop-wait
invariant-loop-wait l = record { seen : l.stamps.items ++ run l.fn.thing l.wait-iterator ≡ stamps_of (naming l.fn.thing l.self) }
