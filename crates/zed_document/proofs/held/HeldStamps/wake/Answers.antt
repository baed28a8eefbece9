use Rattle.std.proofs.Common.{rules, ◌≡◌, ◌∙◌, filter, length, ap, sym}
use Rattle.std.proofs.lemmas.List.{length-map}
use Rattle.zed_op.specs.declared.op.Edit.{Edit}
use Rattle.zed_op.specs.Set.{stamps_of}
use Rattle.zed_document.specs.Held.{waits_in}
use Rattle.zed_document.proofs.Taking.{all-pass}
use Rattle.zed_document.proofs.held.HeldStamps.wake.Goals as goal

pub returns-else-len-held-clause-some : goal.returns-else-len-held-clause-some
returns-else-len-held-clause-some c = λ some.
    let left = c.drop_found.new.stamps.keys in
    let same : filter (waits_in c.args.inbox.now) left ≡ stamps_of c.args.inbox.now =
    c.drop_found.ensures ∙ ap (filter (waits_in c.args.inbox.now)) c.self.view_is ∙ c.requires some in
    let many : length c.args.inbox.now ≡ length left = search rules in
    let all : length (filter (waits_in c.args.inbox.now) left) ≡ length left =
    ap length same ∙ length-map c.args.inbox.now (λ (e : Edit). e.stamp) ∙ many in
    sym (all-pass (waits_in c.args.inbox.now) left all) ∙ same
