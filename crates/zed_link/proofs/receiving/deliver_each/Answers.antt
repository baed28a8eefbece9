use Rattle.std.proofs.Common.{◌≡◌, ◌∙◌, ◌++◌, [], ◌∷◌, Ok, arith, ap, length}
use Rattle.std.proofs.lemmas.List.{length-append}
use Rattle.std.proofs.lemmas.Result.{err_from_is_err_and}
use Rattle.zed_link.specs.declared.error.LinkError.TheVariants.{Memory}
use Rattle.zed_link.specs.Tally.{tally}
use Rattle.zed_link.proofs.Deliveries.{counted_more, delivered_more, one_behind, one_lacks, one_stops}
use Rattle.zed_document.proofs.Fronts.{falls_more}
use Rattle.zed_link.proofs.Outcomes.{refused}
use Rattle.zed_link.proofs.Tallies.{tally_below}
use Rattle.zed_link.proofs.receiving.deliver_each.Goals as goal

pub returns-in_err-state-clause-result : goal.returns-in_err-state-clause-result
returns-in_err-state-clause-result c =
    let old = c.loop-edit.invariant in
    let p = err_from_is_err_and c.from_residual.result c.from_residual.ensures.1 in
    let same : p.0 ≡ c.in_err-state.field-0.0 = p.2 in
    rw (p.1, same) (one_stops c.args.intake.now c.loop-edit.intake old.done c.next.new.self.rest.items c.args.edits.items c.in-Some.edit c.in_err-state.field-0.0 c.deliver_one.new.intake.edits
    old.world old.sound (old.whole ∙ ap (λ z. old.done ++ z) c.in-Some.ensures.steps.0) old.all c.in_err-state.ensures.result)

pub returns-in_err-state-clause-visits : goal.returns-in_err-state-clause-visits
returns-in_err-state-clause-visits c = λ other.
    let p = err_from_is_err_and c.from_residual.result c.from_residual.ensures.1 in
    let same : p.0 ≡ c.in_err-state.field-0.0 = p.2 in
    falls_more _ _ _ c.loop-edit.invariant.falls (c.in_err-state.ensures.visits (λ bad.
    let lack : c.in_err-state.field-0.0 ≡ Memory = cc in
    other (p.1 ∙ ap refused (same ∙ lack))))

pub returns-in_err-state-clause-stale_only_when : goal.returns-in_err-state-clause-stale_only_when
returns-in_err-state-clause-stale_only_when c = λ other.
    let old = c.loop-edit.invariant in
    let lack = c.in_err-state.ensures.stale_only_when (λ same. other (same ∙ old.sound)) in
    one_lacks c.args.intake.now c.loop-edit.intake old.done c.next.new.self.rest.items c.args.edits.items c.in-Some.edit c.deliver_one.new.intake.edits
    old.world old.sound (old.whole ∙ ap (λ z. old.done ++ z) c.in-Some.ensures.steps.0) old.all lack.0 lack.1

pub count-requires-clause-taken : goal.count-requires-clause-taken
count-requires-clause-taken c =
    let old = c.loop-edit.invariant in
    let below = (tally_below c.args.intake.now.edits old.done c.loop-edit.pulled old.counted).taken in
    let more : length c.args.edits.items ≡ length (old.done ++ c.loop-edit.edit-iterator.rest.items) = ap length old.whole in
    let sum = length-append old.done c.loop-edit.edit-iterator.rest.items in
    let next : length c.loop-edit.edit-iterator.rest.items ≡ length (c.in-Some.edit ∷ c.next.new.self.rest.items) =
    ap length c.in-Some.ensures.steps.0 in
    let ok = c.args.edits.ok in
    let small = c.args.edits.small in
    omega (arith, ok, small)

pub count-requires-clause-held : goal.count-requires-clause-held
count-requires-clause-held c =
    let old = c.loop-edit.invariant in
    let below = (tally_below c.args.intake.now.edits old.done c.loop-edit.pulled old.counted).held in
    let more : length c.args.edits.items ≡ length (old.done ++ c.loop-edit.edit-iterator.rest.items) = ap length old.whole in
    let sum = length-append old.done c.loop-edit.edit-iterator.rest.items in
    let next : length c.loop-edit.edit-iterator.rest.items ≡ length (c.in-Some.edit ∷ c.next.new.self.rest.items) =
    ap length c.in-Some.ensures.steps.0 in
    let ok = c.args.edits.ok in
    let small = c.args.edits.small in
    omega (arith, ok, small)

pub count-requires-clause-known : goal.count-requires-clause-known
count-requires-clause-known c =
    let old = c.loop-edit.invariant in
    let below = (tally_below c.args.intake.now.edits old.done c.loop-edit.pulled old.counted).known in
    let more : length c.args.edits.items ≡ length (old.done ++ c.loop-edit.edit-iterator.rest.items) = ap length old.whole in
    let sum = length-append old.done c.loop-edit.edit-iterator.rest.items in
    let next : length c.loop-edit.edit-iterator.rest.items ≡ length (c.in-Some.edit ∷ c.next.new.self.rest.items) =
    ap length c.in-Some.ensures.steps.0 in
    let ok = c.args.edits.ok in
    let small = c.args.edits.small in
    omega (arith, ok, small)

pub loop-edit-preserved : goal.loop-edit-preserved
loop-edit-preserved c =
    let old = c.loop-edit.invariant in
    let one = c.in_ok-state.ensures.result in
    let sound : c.deliver_one.new.intake.is_stale ≡ c.loop-edit.intake.is_stale = c.in_ok-state.ensures.stale (λ bad. cc) in
    record {
      done = old.done ++ c.in-Some.edit ∷ [];
      whole = one_behind old.done c.next.new.self.rest.items c.args.edits.items c.loop-edit.edit-iterator.rest.items c.in-Some.edit old.whole c.in-Some.ensures.steps.0;
      all = delivered_more c.args.intake.now c.loop-edit.intake old.done (c.in-Some.edit ∷ []) (Ok tt) c.deliver_one.new.intake.edits old.world old.sound old.all one.0;
      counted = counted_more c.args.intake.now old.done (c.in-Some.edit ∷ []) c.loop-edit.intake.edits c.loop-edit.pulled (tally (c.in_ok-state.state ∷ [])) c.count.new.self old.all
          old.counted (ap (λ s. tally (s ∷ [])) one.1) c.count.ensures;
      world = c.in_ok-state.ensures.world ∙ old.world;
      sound = sound ∙ old.sound;
      falls = falls_more _ _ _ old.falls (c.in_ok-state.ensures.visits (λ bad. cc));
    }
