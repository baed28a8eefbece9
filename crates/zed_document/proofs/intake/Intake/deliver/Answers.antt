use Rattle.std.proofs.Common.{◌≡◌, ◌∙◌, false, Some, ap, refl, sym, subst, rules}
use Rattle.std.specs.Prelude.{Contains}
use Rattle.zed_op.specs.Set.{IsRising}
use Rattle.zed_history.specs.Finding.{edit_with}
use Rattle.zed_document.specs.Replica.{Replica}
use Rattle.zed_document.specs.declared.delivered.Delivered.{Delivered}
use Rattle.zed_document.specs.declared.delivered.State.TheVariants.{Known}
use Rattle.zed_document.specs.Counts.{Counts, counts_of}
use Rattle.zed_document.specs.Visits.{TellsVisits}
use Rattle.zed_history.proofs.Clashing.{edit_with-stands}
use Rattle.zed_document.proofs.Visited.{tells_known}
use Rattle.zed_document.proofs.intake.Intake.deliver.Goals as goal

pub returns-then-is_same-clause-edits : goal.returns-then-is_same-clause-edits
returns-then-is_same-clause-edits c =
    let v : c.self.inside.log ≡ c.args.self.now.edits = ap (λ (r : Replica). r.edits) c.self.view_is in
    let there : edit_with c.args.edit.stamp c.args.self.now.edits ≡ Some c.in-Some.there.now = search rules in
    let same : c.in-Some.there.now ≡ c.args.edit = search rules in
    let stands : Contains c.args.self.now.edits c.args.edit = subst (Contains c.args.self.now.edits) same (edit_with-stands c.args.edit.stamp c.args.self.now.edits c.in-Some.there.now there).0 in
    c.seek.ensures ∙ v ∙ sym (c.edit_joins_a_set.ensures.there c.args.edit c.args.self.now.edits (subst IsRising v c.self.invariant.rising) stands)

pub returns-then-is_same-clause-visits : goal.returns-then-is_same-clause-visits
returns-then-is_same-clause-visits c =
    let d : Delivered = record { state = Known; woken = 0; visits = 0 } in
    let v : c.self.inside.log ≡ c.args.self.now.edits = ap (λ (r : Replica). r.edits) c.self.view_is in
    let f : c.self.inside.is_stale ≡ false = search rules in
    let k : counts_of c.self.inside.body.texts ≡ c.args.self.now.counts = ap (λ (r : Replica). r.counts) c.self.view_is in
    let known = tells_known c.args.edit c.self.inside.log c.self.inside.body d (c.self.invariant.shown f) refl refl in
    let log =
    subst (λ es. TellsVisits c.args.edit es (counts_of c.self.inside.body.texts) (counts_of c.self.inside.body.texts) d) v known in
    subst (λ (n : Counts). TellsVisits c.args.edit c.args.self.now.edits n (counts_of c.self.inside.body.texts) d) k log
