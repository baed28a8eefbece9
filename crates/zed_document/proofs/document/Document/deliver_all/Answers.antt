use Rattle.std.proofs.Common.{◌≡◌, ◌∙◌, false, ap, subst, sym}
use Rattle.zed_document.specs.Delivery.{HasNew}
use Rattle.zed_document.specs.Replica.{Replica}
use Rattle.zed_document.proofs.Fronts.{falls_between, front_has_new}
use Rattle.zed_document.proofs.document.Document.deliver_all.Goals as goal

pub returns-clause-stale : goal.returns-clause-stale
returns-clause-stale c = λ other.
    let stale = λ (r : Replica). r.is_stale in
    let sound : c.args.self.now.is_stale ≡ false = sym c.is_stale.ensures ∙ c.if-is_stale.false in
    ap stale c.close.ensures ∙ c.deliver_each-delivered.ensures.stale other ∙ sym sound

pub returns-clause-visits : goal.returns-clause-visits
returns-clause-visits c = λ other.
    let e = c.deliver_each-delivered.ensures in
    falls_between _ _ _ _ c.open-intake.ensures c.close.ensures (e.visits (e.stale other))

pub returns-clause-memory_only_when : goal.returns-clause-memory_only_when
returns-clause-memory_only_when c = λ lacks.
    let sound : c.args.self.now.is_stale ≡ false = sym c.is_stale.ensures ∙ c.if-is_stale.false in
    let opened : c.open-intake.result.is_stale ≡ false = ap (λ (r : Replica). r.is_stale) c.open-intake.ensures ∙ sound in
    let new = front_has_new c.open-intake.result c.args.edits.items c.deliver_each-delivered.new.intake.edits opened c.requires (c.deliver_each-delivered.ensures.front lacks) in
    (sound, subst (λ (r : Replica). HasNew r.edits c.args.edits.items) c.open-intake.ensures new)
