use Rattle.std.proofs.Common.{◌≡◌, ◌∙◌, [], ap, false}
use Rattle.zed_document.specs.Replica.{Replica}
use Rattle.zed_op.specs.Set.{union}
use Rattle.zed_take.proofs.Deliveries.{all_joined}
use Rattle.zed_undo.proofs.leaving.document_of.Goals as goal

pub returns-in-Ok-clause-edits : goal.returns-in-Ok-clause-edits
returns-in-Ok-clause-edits c =
    let d = c.new-document.result in
    let sound : d.is_stale ≡ false = ap (λ (r : Replica). r.is_stale) c.new-document.ensures in
    let none : d.edits ≡ [] = ap (λ (r : Replica). r.edits) c.new-document.ensures in
    (all_joined d c.args.edits.items c.deliver_all.new.self.edits sound c.requires c.in-Ok.ensures.result).1 ∙ ap (λ es. union es c.args.edits.items) none
