use Rattle.std.proofs.Common.{◌≡◌, [], ap, false}
use Rattle.zed_document.specs.Replica.{Replica}
use Rattle.zed_join.proofs.Bases.{set_delivered}
use Rattle.zed_join.proofs.sides.document_of.Goals as goal

pub returns-in-Ok-clause-edits : goal.returns-in-Ok-clause-edits
returns-in-Ok-clause-edits c =
    let d = c.new-document.result in
    let sound : d.is_stale ≡ false = ap (λ (r : Replica). r.is_stale) c.new-document.ensures in
    let none : d.edits ≡ [] = ap (λ (r : Replica). r.edits) c.new-document.ensures in
    set_delivered c.deliveries_come_to_sets.ensures d c.args.edits.items c.deliver_all.new.self.edits sound none c.requires c.in-Ok.ensures.result
