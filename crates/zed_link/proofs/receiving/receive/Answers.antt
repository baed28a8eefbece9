use Rattle.std.proofs.Common.{◌≡◌, ◌∙◌, ap}
use Rattle.zed_document.specs.Replica.{Replica}
use Rattle.zed_document.proofs.Fronts.{falls_between}
use Rattle.zed_link.proofs.Outcomes.{stops_between}
use Rattle.zed_link.proofs.receiving.receive.Goals as goal

pub returns-clause-stale : goal.returns-clause-stale
returns-clause-stale g c = λ other.
    let stale = λ (r : Replica). r.is_stale in
    ap stale c.close.ensures ∙ c.receive_into-result.ensures.stale other ∙ ap stale (c.of-intake.ensures ∙ c.replace-taken.ensures.value)

pub returns-clause-stale_only_when : goal.returns-clause-stale_only_when
returns-clause-stale_only_when g c = λ other.
    let stale = λ (r : Replica). r.is_stale in
    let begun : c.of-intake.result ≡ c.args.document.now = c.of-intake.ensures ∙ c.replace-taken.ensures.value in
    let lack = c.receive_into-result.ensures.stale_only_when (λ same. other (ap stale c.close.ensures ∙ same ∙ ap stale begun)) in
    stops_between _ _ _ _ _ _ begun c.close.ensures lack

pub returns-clause-visits : goal.returns-clause-visits
returns-clause-visits g c = λ other.
    falls_between _ _ _ _ (c.of-intake.ensures ∙ c.replace-taken.ensures.value) c.close.ensures (c.receive_into-result.ensures.visits other)
