use Rattle.std.proofs.Common.{◌∙◌, None, length}
use Rattle.zed_link.specs.Ends.{Changed, Took}
use Rattle.zed_link.specs.Writing.{WritesAtMost}
use Rattle.zed_session.specs.Gone.{FailedToSend, told}
use Rattle.zed_session.proofs.Places.{gone_at, removed_at, replaced_at}
use Rattle.zed_session.proofs.over.send_at.Goals as goal

-- the link took the bytes
pub returns-in-Ok-clause-ok : goal.returns-in-Ok-clause-ok
returns-in-Ok-clause-ok g c =
    replaced_at _ (λ a b. Changed (Took c.args.bytes.now) a b) _ _ _ _ None c.requires c.index_mut.ensures.value c.in-Ok.ensures.ok

pub returns-in-Ok-clause-wrote : goal.returns-in-Ok-clause-wrote
returns-in-Ok-clause-wrote g c =
    replaced_at _ (λ a b. WritesAtMost (length c.args.bytes.now) a b) _ _ _ _ (record { made = 0; empty = 0 }) c.requires c.index_mut.ensures.value c.in-Ok.ensures.writes

-- the link is gone
pub returns-in-Err-clause-taken_out : goal.returns-in-Err-clause-taken_out
returns-in-Err-clause-taken_out g c = c.remove.ensures.items ∙ removed_at c.args.links.now.items c.args.i c.send_over.new.link

pub returns-in-Err-clause-gone : goal.returns-in-Err-clause-gone
returns-in-Err-clause-gone g c =
    gone_at _ (λ a b. FailedToSend c.args.bytes.now a b) _ _ _ _ _ (told None 0 (record { made = 0; empty = 0 }) 0 0) c.requires c.index_mut.ensures.value c.remove.ensures.value
    (record { ends = c.in-Err.ensures.half; fault = c.in-Err.ensures.faults; writes = c.in-Err.ensures.writes; reads = c.in-Err.ensures.reads })
