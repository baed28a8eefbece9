use Rattle.std.proofs.Common.{◌≡◌, ◌≤◌, ◌++◌, drop, length, vec_len, vec_capacity}
use Rattle.zed_op.specs.Set.{IsRising, stamps_of}
use Rattle.zed_inbox.specs.Waiting.{naming, not_naming}
use Rattle.zed_inbox.proofs.inbox.Inbox.take_all.Given as goal

abbrev pub invariant-loop-stamp : goal.invariant-loop-stamp
invariant-loop-stamp l = record {
  left : drop l.stamp-index l.stamps ≡ stamps_of (naming l.fn._thing l.self);
  got : l.taken.items ++ naming l.fn._thing l.self ≡ naming l.fn._thing l.fn.self;
  others : not_naming l.fn._thing l.self ≡ not_naming l.fn._thing l.fn.self;
  rising : IsRising l.self;
  count : vec_len l.taken ≤ l.stamp-index;
  room : length l.stamps ≤ vec_capacity l.taken;
}
