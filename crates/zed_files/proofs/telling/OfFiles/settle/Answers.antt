use Rattle.std.proofs.Common.{◌∙◌, ap, subst}
use Rattle.std.specs.Prelude.{IfOk}
use Rattle.zed_files.specs.Collected.{IsOf, world_in}
use Rattle.zed_files.specs.Gathers.{first_stop}
use Rattle.zed_files.specs.Texts.{texts_of}
use Rattle.zed_files.proofs.Gathers.{gathers_to, settled_fresh}
use Rattle.zed_files.proofs.telling.OfFiles.settle.Goals as goal

pub returns-clause-set : goal.returns-clause-set
returns-clause-set g c = λ files has all.
    let s = c.args.self.now in
    gathers_to c.deliveries_come_to_sets.ensures (texts_of s.names.now) files s.gathered.feed s.gathered.clash s.refusal c.settled.result has all
    (c.settled.ensures.stop ∙ ap (λ r. first_stop s.gathered.clash r (world_in c.take.result)) c.take-2.ensures.value ∙ ap (λ f. first_stop s.gathered.clash s.refusal (world_in f)) c.take.ensures.value)
    (subst (λ f. IfOk c.settled.result (IsOf f)) c.take.ensures.value c.settled.ensures.document)

pub returns-clause-sound : goal.returns-clause-sound
returns-clause-sound g c = λ files has.
    let s = c.args.self.now in
    settled_fresh files s.gathered.feed s.gathered.clash s.refusal c.settled.result has
    (c.settled.ensures.stop ∙ ap (λ r. first_stop s.gathered.clash r (world_in c.take.result)) c.take-2.ensures.value ∙ ap (λ f. first_stop s.gathered.clash s.refusal (world_in f)) c.take.ensures.value)
    (subst (λ f. IfOk c.settled.result (IsOf f)) c.take.ensures.value c.settled.ensures.document)
