use Rattle.std.proofs.Common.{rules, ◌≡◌, ◌∙◌, ap, subst, sym}
use Rattle.std.proofs.lemmas.Result.{err_from_is_err_and}
use Rattle.zed_document.proofs.Fronts.{IsGoing, falls_same, going_begins, going_ends, going_lacks, going_on, lacked, next_fits, refused, stays_sound}
use Rattle.zed_document.proofs.many.deliver_each.Goals as goal

pub loop-edit-init : goal.loop-edit-init
loop-edit-init c =
    let all : c.into_iter-edit-iterator.result.rest.items ≡ c.args.edits.items = search rules in
    subst (IsGoing c.args.intake.now c.args.edits.items c.args.intake.now) (sym all) (going_begins c.args.intake.now c.args.edits.items c.requires.sound c.requires.fit)

pub deliver-requires : goal.deliver-requires
deliver-requires c = next_fits c.args.intake.now c.loop-edit.intake c.args.edits.items c.loop-edit.edit-iterator.rest.items c.next.new.self.rest.items c.in-Some.edit c.loop-edit.invariant c.in-Some.ensures.steps.0

pub loop-edit-preserved : goal.loop-edit-preserved
loop-edit-preserved c =
    let o = c.in_ok-deliver.ensures in
    going_on c.args.intake.now c.loop-edit.intake c.deliver.new.self c.args.edits.items c.loop-edit.edit-iterator.rest.items c.next.new.self.rest.items c.in-Some.edit c.in_ok-deliver.field-0
    c.loop-edit.invariant c.in-Some.ensures.steps.0 o.result o.edits o.world o.sound o.visits.falls

pub returns-in_err-deliver-clause-result : goal.returns-in_err-deliver-clause-result
returns-in_err-deliver-clause-result c =
    let p = err_from_is_err_and c.from_residual.result c.from_residual.ensures.1 in
    let same : p.0 ≡ c.in_err-deliver.field-0.0 = p.2 in
    rw (p.1, same) (going_ends c.args.intake.now c.loop-edit.intake c.args.edits.items c.loop-edit.edit-iterator.rest.items c.next.new.self.rest.items c.deliver.new.self.edits c.in-Some.edit c.in_err-deliver.field-0.0
    c.loop-edit.invariant c.in-Some.ensures.steps.0 c.in_err-deliver.ensures.result c.in_err-deliver.ensures.edits)

pub returns-in_err-deliver-clause-front : goal.returns-in_err-deliver-clause-front
returns-in_err-deliver-clause-front c = λ lacks.
    let p = err_from_is_err_and c.from_residual.result c.from_residual.ensures.1 in
    let same : p.0 ≡ c.in_err-deliver.field-0.0 = p.2 in
    let may = c.in_err-deliver.ensures.memory_only_when (lacked c.in_err-deliver.field-0.0 (sym (p.1 ∙ ap refused same) ∙ lacks)) in
    going_lacks c.args.intake.now c.loop-edit.intake c.args.edits.items c.loop-edit.edit-iterator.rest.items c.next.new.self.rest.items c.deliver.new.self.edits c.in-Some.edit
    c.loop-edit.invariant c.in-Some.ensures.steps.0 may.1 c.in_err-deliver.ensures.edits

pub returns-in_err-deliver-clause-visits : goal.returns-in_err-deliver-clause-visits
returns-in_err-deliver-clause-visits c = λ calm.
    let e = c.in_err-deliver.ensures in
    let fits = next_fits c.args.intake.now c.loop-edit.intake c.args.edits.items c.loop-edit.edit-iterator.rest.items c.next.new.self.rest.items c.in-Some.edit c.loop-edit.invariant c.in-Some.ensures.steps.0 in
    falls_same c.args.intake.now c.loop-edit.intake c.deliver.new.self c.loop-edit.invariant.falls
    (stays_sound c.loop-edit.intake c.deliver.new.self c.in-Some.edit c.in_err-deliver.field-0.0 c.loop-edit.invariant.sound fits e.result e.refused e.kept calm)
