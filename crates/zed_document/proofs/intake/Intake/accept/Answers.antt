use Rattle.std.proofs.Common.{rules, ◌≡◌, ◌∙◌, false, true, None, ap, refl, subst, sym, inr}
use Rattle.zed_op.specs.Set.{with_edit}
use Rattle.zed_history.specs.Finding.{edit_with}
use Rattle.zed_document.specs.Delivery.{TellsNew}
use Rattle.zed_document.specs.Kept.{IsKept}
use Rattle.zed_document.specs.Replica.{Replica}
use Rattle.zed_document.specs.declared.delivered.Delivered.{Delivered}
use Rattle.zed_document.specs.Counts.{Counts, counts_of}
use Rattle.zed_document.specs.Visits.{TellsVisits}
use Rattle.zed_document.proofs.Bodies.{comes, is_new, not_kept, one_more, rest_waits, tells_new}
use Rattle.zed_document.proofs.Taking.{is_renewed}
use Rattle.zed_document.proofs.Visited.{none_woken, tells_visits, told_by}
use Rattle.zed_document.proofs.intake.Intake.accept.Goals as goal

pub take-requires-clause-new : goal.take-requires-clause-new
take-requires-clause-new c =
    let v : c.self.inside.log ≡ c.args.self.now.edits = ap (λ (r : Replica). r.edits) c.self.view_is in
    let f : c.self.inside.is_stale ≡ false = ap (λ (r : Replica). r.is_stale) c.self.view_is ∙ c.requires.sound in
    let new : edit_with c.args.edit.stamp c.self.inside.log ≡ None = ap (edit_with c.args.edit.stamp) v ∙ c.requires.new in
    is_new c.args.edit c.self.inside.log c.self.inside.held c.self.inside.is_stale c.self.inside.body c.self.invariant f new

pub wake-requires : goal.wake-requires
wake-requires c = λ some.
    let v : c.self.inside.log ≡ c.args.self.now.edits = ap (λ (r : Replica). r.edits) c.self.view_is in
    let f : c.self.inside.is_stale ≡ false = ap (λ (r : Replica). r.is_stale) c.self.view_is ∙ c.requires.sound in
    let new : edit_with c.args.edit.stamp c.self.inside.log ≡ None = ap (edit_with c.args.edit.stamp) v ∙ c.requires.new in
    let come = comes c.args.edit c.self.inside.log c.self.inside.held c.self.inside.is_stale c.self.inside.body c.self.invariant f new in
    rest_waits c.held_edits_are_remembered.ensures c.args.edit c.self.inside.log c.self.inside.held c.follow.new.self c.self.inside.body c.take.new.self c.in_ok-taken.taken
    come c.requires.fits c.self.invariant.held (c.in_ok-taken.ensures.ok c.self.inside.log come) c.in_ok-taken.ensures.tells c.in-Ok.ensures.ok some

pub invariant_of-self-2 : goal.invariant_of-self-2
invariant_of-self-2 c =
    let v : c.self.inside.log ≡ c.args.self.now.edits = ap (λ (r : Replica). r.edits) c.self.view_is in
    let f : c.self.inside.is_stale ≡ false = ap (λ (r : Replica). r.is_stale) c.self.view_is ∙ c.requires.sound in
    let new : edit_with c.args.edit.stamp c.self.inside.log ≡ None = ap (edit_with c.args.edit.stamp) v ∙ c.requires.new in
    let renewed = is_renewed c.in_ok-taken.taken c.args.edit c.take.new.self.inbox c.self.inside.held c.follow.new.self c.wake.new.self c.in_ok-taken.taken.woken refl c.in-Ok.ensures.ok c.wake.ensures.some c.wake.ensures.none in
    let kept = one_more c.held_edits_are_remembered.ensures c.calm_edits_hold_the_same.ensures c.sets_rise.ensures.edit c.sets_stay_fit.ensures.edit
    c.args.edit c.self.inside.log c.self.inside.held c.wake.new.self c.self.inside.is_stale c.self.inside.body c.take.new.self c.in_ok-taken.taken
    c.self.invariant f new c.requires.fits (c.edit_has_sizes.ensures c.requires.fits) c.in_ok-taken.ensures.ok c.in_ok-taken.ensures.tells renewed in
    subst (λ es. IsKept es c.wake.new.self false c.take.new.self) (sym c.in-Ok-add.ensures.ok) kept

pub invariant_of-self-in_default-add : goal.invariant_of-self-in_default-add
invariant_of-self-in_default-add c =
    let v : c.self.inside.log ≡ c.args.self.now.edits = ap (λ (r : Replica). r.edits) c.self.view_is in
    let new : edit_with c.args.edit.stamp c.self.inside.log ≡ None = ap (edit_with c.args.edit.stamp) v ∙ c.requires.new in
    let kept = not_kept c.args.edit c.self.inside.log c.self.inside.held c.follow.new.self c.undo.new.self c.self.inside.is_stale c.self.inside.body c.give_up_body-in_default-add.new.body c.in_ok-taken.taken c.self.invariant new c.in-Ok.ensures.ok c.undo.ensures c.give_up_body-in_default-add.ensures in
    let same : c.add.new.self ≡ c.self.inside.log = search rules in
    subst (λ es. IsKept es c.undo.new.self true c.give_up_body-in_default-add.new.body) (sym same) kept

pub returns-clause-tells : goal.returns-clause-tells
returns-clause-tells c =
    let v : c.self.inside.log ≡ c.args.self.now.edits = ap (λ (r : Replica). r.edits) c.self.view_is in
    let f : c.self.inside.is_stale ≡ false = ap (λ (r : Replica). r.is_stale) c.self.view_is ∙ c.requires.sound in
    let new : edit_with c.args.edit.stamp c.self.inside.log ≡ None = ap (edit_with c.args.edit.stamp) v ∙ c.requires.new in
    let come = comes c.args.edit c.self.inside.log c.self.inside.held c.self.inside.is_stale c.self.inside.body c.self.invariant f new in
    let tells = tells_new c.args.edit c.self.inside.log c.self.inside.body c.in_ok-taken.taken (record { state = c.of_new.result; woken = c.in_ok-taken.taken.woken; visits = c.visits_since.result }) come c.in_ok-taken.ensures.tells c.of_new.ensures refl in
    inr (subst (λ es. TellsNew es (with_edit c.args.edit es) c.args.edit (record { state = c.of_new.result; woken = c.in_ok-taken.taken.woken; visits = c.visits_since.result })) v tells)

pub returns-clause-visits : goal.returns-clause-visits
returns-clause-visits c =
    let d : Delivered = record { state = c.of_new.result; woken = c.in_ok-taken.taken.woken; visits = c.visits_since.result } in
    let v : c.self.inside.log ≡ c.args.self.now.edits = ap (λ (r : Replica). r.edits) c.self.view_is in
    let f : c.self.inside.is_stale ≡ false = ap (λ (r : Replica). r.is_stale) c.self.view_is ∙ c.requires.sound in
    let k : counts_of c.self.inside.body.texts ≡ c.args.self.now.counts = ap (λ (r : Replica). r.counts) c.self.view_is in
    let new : edit_with c.args.edit.stamp c.self.inside.log ≡ None = ap (edit_with c.args.edit.stamp) v ∙ c.requires.new in
    let come = comes c.args.edit c.self.inside.log c.self.inside.held c.self.inside.is_stale c.self.inside.body c.self.invariant f new in
    let woken = none_woken c.held_edits_are_remembered.ensures c.args.edit c.self.inside.log c.self.inside.body c.in_ok-taken.taken come c.in_ok-taken.ensures.tells in
    let told =
    told_by c.args.edit c.in_ok-taken.taken c.self.inside.body c.take.new.self.texts c.visits_before-before.result c.visits_since.result
    c.visits_before-before.ensures.some c.visits_before-before.ensures.none c.visits_before-before.ensures.calm c.visits_since.ensures.some c.visits_since.ensures.within c.visits_since.ensures.none woken in
    let all = tells_visits c.args.edit c.self.inside.log c.self.inside.body c.take.new.self c.in_ok-taken.taken d (c.self.invariant.shown f) (c.in_ok-taken.ensures.ok c.self.inside.log come) c.in_ok-taken.ensures.visits c.of_new.ensures refl told in
    let log = subst (λ es. TellsVisits c.args.edit es (counts_of c.self.inside.body.texts) (counts_of c.take.new.self.texts) d) v all in
    subst (λ (n : Counts). TellsVisits c.args.edit c.args.self.now.edits n (counts_of c.take.new.self.texts) d) k log
