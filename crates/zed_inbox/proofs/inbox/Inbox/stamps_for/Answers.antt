use Rattle.std.proofs.Common.{rules, ◌≡◌, ◌∙◌, ◌++◌, [], ap, ap₂}
use Rattle.std.specs.Map.{values_of}
use Rattle.zed_op.specs.Set.{stamps_of}
use Rattle.zed_inbox.specs.Waiting.{naming}
use Rattle.zed_inbox.proofs.Order.{thing_cmp, things}
use Rattle.zed_inbox.proofs.Listing.{run, found_stamps}
use Rattle.zed_inbox.proofs.inbox.Inbox.stamps_for.Goals as goal

pub loop-wait-init : goal.loop-wait-init
loop-wait-init c =
    let x = c.args.thing in
    let es = values_of c.self.inside.edits.entries in
    let none : c.new-stamps.result.items ≡ [] = search rules in
    let same : c.into_iter-wait-iterator.result ≡ c.range-wait-items.result = search rules in
    let found : run x c.range-wait-items.result ≡ stamps_of (naming x es) =
    ap (run x) (c.range-wait-items.ensures.between tt) ∙ found_stamps thing_cmp things x c.self.inside.waits.keys es c.range-wait-items.ensures.ordered c.self.invariant.rising c.self.invariant.listed in
    record {
      seen = ap₂ (λ ss ws. ss ++ run x ws) none same ∙ found ∙ ap (λ fs. stamps_of (naming x fs)) c.self.view_is;
    }
