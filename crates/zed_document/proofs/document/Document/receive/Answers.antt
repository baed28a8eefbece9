use Rattle.std.proofs.Common.{◌≡◌, ◌∙◌, false, ap, refl, subst}
use Rattle.zed_document.specs.declared.delivered.Delivered.{Delivered}
use Rattle.zed_document.specs.declared.delivered.State.TheVariants.{Known}
use Rattle.zed_document.specs.Counts.{Counts, counts_of}
use Rattle.zed_document.specs.Replica.{Replica}
use Rattle.zed_document.specs.Visits.{TellsVisits}
use Rattle.zed_document.proofs.Visited.{tells_known}
use Rattle.zed_document.proofs.document.Document.receive.Goals as goal

pub returns-then-is_same-clause-visits : goal.returns-then-is_same-clause-visits
returns-then-is_same-clause-visits c =
    let d : Delivered = record { state = Known; woken = 0; visits = 0 } in
    let v : c.self.inside.edits.items ≡ c.args.self.now.edits = ap (λ (r : Replica). r.edits) c.self.view_is in
    let f : c.self.inside.is_stale ≡ false = ap (λ (r : Replica). r.is_stale) c.self.view_is ∙ c.requires.sound in
    let k : counts_of c.self.inside.body.texts ≡ c.args.self.now.counts = ap (λ (r : Replica). r.counts) c.self.view_is in
    let known = tells_known c.args.edit c.self.inside.edits.items c.self.inside.body d (c.self.invariant.shown f) refl refl in
    let log =
    subst (λ es. TellsVisits c.args.edit es (counts_of c.self.inside.body.texts) (counts_of c.self.inside.body.texts) d) v known in
    subst (λ (n : Counts). TellsVisits c.args.edit c.args.self.now.edits n n d) k log
