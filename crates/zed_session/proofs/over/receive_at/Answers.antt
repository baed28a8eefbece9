use Rattle.std.proofs.Common.{◌≡◌, ◌∙◌, Ok, Err, None, ap}
use Rattle.zed_link.specs.declared.error.LinkError.TheVariants.{Memory}
use Rattle.zed_link.specs.Pull.{StopsAtDelivery}
use Rattle.zed_session.specs.Gone.{FailedToReceive, told}
use Rattle.zed_session.specs.Links.{PullsOver, seen}
use Rattle.zed_session.proofs.Places.{gone_at, removed_at, replaced_at}
use Rattle.zed_session.proofs.over.receive_at.Goals as goal

-- the edits of the link were delivered
pub returns-in-Ok-clause-ok : goal.returns-in-Ok-clause-ok
returns-in-Ok-clause-ok g c =
    replaced_at _ (λ a b. PullsOver c.args.document.now a b (Ok c.in-Ok.pulled) c.receive_over.new.document.edits) _ _ _ _ (seen None 0) c.requires.within c.index_mut.ensures.value
    (c.in-Ok.ensures.pull c.requires.sound)

-- the link is gone
pub returns-in-Err-clause-taken_out : goal.returns-in-Err-clause-taken_out
returns-in-Err-clause-taken_out g c = c.remove-link.ensures.items ∙ removed_at c.args.links.now.items c.args.i c.receive_over.new.link

pub returns-in-Err-clause-gone_pull : goal.returns-in-Err-clause-gone_pull
returns-in-Err-clause-gone_pull g c =
    gone_at _ (λ a b. PullsOver c.args.document.now a b (Err c.in-Err.error) c.receive_over.new.document.edits) _ _ _ _ _ (seen None 0) c.requires.within c.index_mut.ensures.value
    c.remove-link.ensures.value (c.in-Err.ensures.pull c.requires.sound)

pub returns-in-Err-clause-gone : goal.returns-in-Err-clause-gone
returns-in-Err-clause-gone g c =
    gone_at _ (λ a b. FailedToReceive c.in-Err.error a b) _ _ _ _ _ (told None 0 (record { made = 0; empty = 0 }) 0 0) c.requires.within c.index_mut.ensures.value
    c.remove-link.ensures.value
    (record { fault = c.in-Err.ensures.failures; writes = c.in-Err.ensures.writes; stalls = c.in-Err.ensures.stalls })

-- the document wasn't stale
pub returns-in-Err-clause-never_stale : goal.returns-in-Err-clause-never_stale
returns-in-Err-clause-never_stale g c = λ same. let stale = c.in-Err.ensures.err.0 (ap Err same) in cc

pub returns-in-Err-clause-stale : goal.returns-in-Err-clause-stale
returns-in-Err-clause-stale g c = λ ample. c.in-Err.ensures.stale (λ lack. let is : c.in-Err.error ≡ Memory = cc in ample is)

pub returns-in-Err-clause-stale_only_when : goal.returns-in-Err-clause-stale_only_when
returns-in-Err-clause-stale_only_when g c = λ other.
    gone_at _ (λ a b. StopsAtDelivery c.args.document.now a b c.receive_over.new.document.edits) _ _ _ _ _ None c.requires.within c.index_mut.ensures.value
    c.remove-link.ensures.value (c.in-Err.ensures.stale_only_when other)

pub returns-in-Err-clause-visits : goal.returns-in-Err-clause-visits
returns-in-Err-clause-visits g c = λ ample. c.in-Err.ensures.visits (λ lack. let is : c.in-Err.error ≡ Memory = cc in ample is)

pub returns-in-Ok-clause-sound : goal.returns-in-Ok-clause-sound
returns-in-Ok-clause-sound g c = c.in-Ok.ensures.stale (λ lack. cc)

pub returns-in-Ok-clause-looks : goal.returns-in-Ok-clause-looks
returns-in-Ok-clause-looks g c = c.in-Ok.ensures.visits (λ lack. cc)
