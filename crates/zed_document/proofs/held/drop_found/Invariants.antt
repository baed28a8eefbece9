use Rattle.std.proofs.Common.{◌≡◌, filter}
use Rattle.zed_document.specs.Held.{waits_in}
use Rattle.zed_document.proofs.held.drop_found.Given as goal

abbrev pub invariant-loop-stamp : goal.invariant-loop-stamp
invariant-loop-stamp l = filter (waits_in l.inbox) l.stamps.keys ≡ filter (waits_in l.inbox) l.fn.stamps.keys
