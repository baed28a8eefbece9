use Rattle.std.proofs.Common.{rules, ◌≡◌, ◌∙◌, false, filter, ap, sym}
use Rattle.std.specs.BTreeMap.{is_at}
use Rattle.std.specs.Set.{remove_key}
use Rattle.zed_types.specs.Stamp.{stamp_cmp}
use Rattle.zed_document.specs.Held.{waits_in}
use Rattle.zed_document.proofs.Taking.{removed}
use Rattle.zed_document.proofs.held.drop_one.Goals as goal

pub returns : goal.returns
returns c =
    let gone : waits_in c.args.inbox.now c.args.stamp ≡ false = sym c.is_held.ensures.result ∙ c.if-is_held.false in
    let out : c.remove.new.self.keys ≡ remove_key (is_at (stamp_cmp c.args.stamp)) c.args.stamps.now.keys = search rules in
    ap (filter (waits_in c.args.inbox.now)) out ∙ removed (waits_in c.args.inbox.now) c.args.stamp c.args.stamps.now.keys gone
