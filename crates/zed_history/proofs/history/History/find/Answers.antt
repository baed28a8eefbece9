use Rattle.std.proofs.Common.{◌≡◌, ◌∙◌, ◌++◌, ◌∷◌, [], None, Some, Option, ap, rules}
use Rattle.zed_op.specs.declared.op.Edit.{Edit}
use Rattle.zed_op.specs.Set.{IsRising}
use Rattle.zed_history.specs.Finding.{edit_with, first_of}
use Rattle.zed_history.specs.Runs.{found_in}
use Rattle.zed_history.proofs.Opened.{SetsHold}
use Rattle.zed_history.proofs.Runs.{found-append, found-behind, found-whole, last-rises}
use Rattle.zed_history.proofs.history.History.find.Goals as goal

pub returns-in-Ok-clause-some : goal.returns-in-Ok-clause-some
returns-in-Ok-clause-some c =
    let laws : SetsHold =
    record { rises = c.sets_rise.ensures.edit; joins = c.sets_rise.ensures.union; known = c.rising_lists_are_sets.ensures.known } in
    let log = c.self.inside.log.items in
    let late = c.self.inside.settled.items ++ c.self.inside.run.items ∷ [] in
    let there : edit_with c.args.stamp log ≡ Some c.in-Ok.there.now = search rules in
    found-whole laws c.args.stamp (log ∷ late) c.args.self.now c.self.invariant.0 c.self.view_is ∙ ap (λ (o : Option Edit). first_of o (found_in c.args.stamp late)) there

pub returns-in-Some-clause-some : goal.returns-in-Some-clause-some
returns-in-Some-clause-some c =
    let laws : SetsHold =
    record { rises = c.sets_rise.ensures.edit; joins = c.sets_rise.ensures.union; known = c.rising_lists_are_sets.ensures.known } in
    let log = c.self.inside.log.items in
    let settled = c.self.inside.settled.items in
    let last = c.self.inside.run.items ∷ [] in
    let none : edit_with c.args.stamp log ≡ None = search rules in
    let there : found_in c.args.stamp settled ≡ Some c.in-Some.there.now = search rules in
    found-whole laws c.args.stamp (log ∷ (settled ++ last)) c.args.self.now c.self.invariant.0 c.self.view_is
    ∙ ap (λ (o : Option Edit). first_of o (found_in c.args.stamp (settled ++ last))) none
    ∙ found-append c.args.stamp settled last
    ∙ ap (λ (o : Option Edit). first_of o (found_in c.args.stamp last)) there

pub find_last-requires : goal.find_last-requires
find_last-requires c =
    let rises : IsRising c.self.inside.run.items = last-rises c.self.inside.settled.items c.self.inside.run.items c.self.invariant.0.2 in
    search rules

pub returns-clause-some : goal.returns-clause-some
returns-clause-some c =
    let laws : SetsHold =
    record { rises = c.sets_rise.ensures.edit; joins = c.sets_rise.ensures.union; known = c.rising_lists_are_sets.ensures.known } in
    let log = c.self.inside.log.items in
    let settled = c.self.inside.settled.items in
    let none : edit_with c.args.stamp log ≡ None = search rules in
    let others : found_in c.args.stamp settled ≡ None = search rules in
    rw (found-behind laws c.args.stamp log c.self.inside.run.items c.args.self.now settled c.self.invariant.0 c.self.view_is none others) (search rules)

pub returns-clause-none : goal.returns-clause-none
returns-clause-none c =
    let laws : SetsHold =
    record { rises = c.sets_rise.ensures.edit; joins = c.sets_rise.ensures.union; known = c.rising_lists_are_sets.ensures.known } in
    let log = c.self.inside.log.items in
    let settled = c.self.inside.settled.items in
    let none : edit_with c.args.stamp log ≡ None = search rules in
    let others : found_in c.args.stamp settled ≡ None = search rules in
    rw (found-behind laws c.args.stamp log c.self.inside.run.items c.args.self.now settled c.self.invariant.0 c.self.view_is none others) (search rules)
