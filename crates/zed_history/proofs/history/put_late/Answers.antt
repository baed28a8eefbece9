use Rattle.std.proofs.Common.{◌≡◌, ◌∙◌, ◌++◌, ◌∷◌, [], None, ap, sym, subst, rules, List, Option, arith}
use Rattle.zed_op.specs.declared.op.Edit.{Edit}
use Rattle.zed_op.specs.Set.{IsRising, with_edit}
use Rattle.zed_history.specs.Finding.{AllBelow, edit_with, first_of}
use Rattle.zed_history.specs.Runs.{AreRuns, count_in, found_in}
use Rattle.zed_history.proofs.Opened.{SetsHold}
use Rattle.zed_history.proofs.Runs.{count-in-last, count-last, count-push, found-empty, found-in-last, found-push, last-rises, runs-empty, runs-more, runs-push}
use Rattle.zed_history.proofs.history.put_late.Goals as goal

pub is_latest-requires : goal.is_latest-requires
is_latest-requires c = subst IsRising (sym c.deref.ensures.value) (last-rises c.args.settled.now.items c.args.run.now.items c.requires.runs)

pub returns-then-is_latest-clause-runs : goal.returns-then-is_latest-clause-runs
returns-then-is_latest-clause-runs c = λ log h none.
    let laws : SetsHold =
    record { rises = c.sets_rise.ensures.edit; joins = c.sets_rise.ensures.union; known = c.rising_lists_are_sets.ensures.known } in
    let left = c.args.settled.now.items in
    let items : c.push_reserved.new.self.items ≡ c.args.run.now.items ++ c.args.edit ∷ [] = search rules in
    let below : AllBelow c.args.edit.stamp c.args.run.now.items = search rules in
    let new : found_in c.args.edit.stamp (log ∷ (left ++ c.args.run.now.items ∷ [])) ≡ None =
    ap (λ (o : Option Edit). first_of o (found_in c.args.edit.stamp (left ++ c.args.run.now.items ∷ []))) none ∙ c.requires.new in
    subst (λ (es : List Edit). AreRuns (log ∷ (left ++ es ∷ []))) (sym items) (runs-push laws c.args.edit (log ∷ left) c.args.run.now.items h new below)

pub returns-then-is_latest-clause-found : goal.returns-then-is_latest-clause-found
returns-then-is_latest-clause-found c = λ s.
    let laws : SetsHold =
    record { rises = c.sets_rise.ensures.edit; joins = c.sets_rise.ensures.union; known = c.rising_lists_are_sets.ensures.known } in
    let left = c.args.settled.now.items in
    let items : c.push_reserved.new.self.items ≡ c.args.run.now.items ++ c.args.edit ∷ [] = search rules in
    let below : AllBelow c.args.edit.stamp c.args.run.now.items = search rules in
    ap (λ (es : List Edit). found_in s (left ++ es ∷ [])) items ∙ found-push laws s c.args.edit left c.args.run.now.items c.requires.runs below

pub returns-then-is_latest-clause-count : goal.returns-then-is_latest-clause-count
returns-then-is_latest-clause-count c =
    let left = c.args.settled.now.items in
    let items : c.push_reserved.new.self.items ≡ c.args.run.now.items ++ c.args.edit ∷ [] = search rules in
    let is : count_in (left ++ c.push_reserved.new.self.items ∷ []) ≡ count_in (left ++ (c.args.run.now.items ++ c.args.edit ∷ []) ∷ []) =
    ap (λ (es : List Edit). count_in (left ++ es ∷ [])) items in
    let last = count-push left c.args.run.now.items c.args.edit in
    omega (arith, is, last)

pub place_in-requires : goal.place_in-requires
place_in-requires c =
    subst IsRising (sym c.deref-2.ensures.value) (last-rises c.args.settled.now.items c.args.run.now.items c.requires.runs)

pub returns-in-Some-clause-runs : goal.returns-in-Some-clause-runs
returns-in-Some-clause-runs c = λ log h none.
    let laws : SetsHold =
    record { rises = c.sets_rise.ensures.edit; joins = c.sets_rise.ensures.union; known = c.rising_lists_are_sets.ensures.known } in
    let left = c.args.settled.now.items in
    let items : c.put_at.new.run.items ≡ with_edit c.args.edit c.args.run.now.items = search rules in
    let new : found_in c.args.edit.stamp (log ∷ (left ++ c.args.run.now.items ∷ [])) ≡ None =
    ap (λ (o : Option Edit). first_of o (found_in c.args.edit.stamp (left ++ c.args.run.now.items ∷ []))) none ∙ c.requires.new in
    subst (λ (es : List Edit). AreRuns (log ∷ (left ++ es ∷ []))) (sym items) (runs-more laws c.args.edit (log ∷ left) c.args.run.now.items h new)

pub returns-in-Some-clause-found : goal.returns-in-Some-clause-found
returns-in-Some-clause-found c = λ s.
    let laws : SetsHold =
    record { rises = c.sets_rise.ensures.edit; joins = c.sets_rise.ensures.union; known = c.rising_lists_are_sets.ensures.known } in
    let left = c.args.settled.now.items in
    let items : c.put_at.new.run.items ≡ with_edit c.args.edit c.args.run.now.items = search rules in
    ap (λ (es : List Edit). found_in s (left ++ es ∷ [])) items ∙ found-in-last laws s c.args.edit left c.args.run.now.items c.requires.runs

pub returns-in-Some-clause-count : goal.returns-in-Some-clause-count
returns-in-Some-clause-count c =
    let left = c.args.settled.now.items in
    let items : c.put_at.new.run.items ≡ with_edit c.args.edit c.args.run.now.items = search rules in
    let is : count_in (left ++ c.put_at.new.run.items ∷ []) ≡ count_in (left ++ with_edit c.args.edit c.args.run.now.items ∷ []) =
    ap (λ (es : List Edit). count_in (left ++ es ∷ [])) items in
    let last = count-in-last left c.args.run.now.items c.args.edit in
    omega (arith, is, last)

pub returns-clause-runs : goal.returns-clause-runs
returns-clause-runs c = λ log h none.
    let laws : SetsHold =
    record { rises = c.sets_rise.ensures.edit; joins = c.sets_rise.ensures.union; known = c.rising_lists_are_sets.ensures.known } in
    let left = c.start_run.new.settled.items in
    let one : c.push_reserved-2.new.self.items ≡ c.args.edit ∷ [] =
    c.push_reserved-2.ensures.items ∙ ap (λ (es : List Edit). es ++ c.args.edit ∷ []) c.in_ok-start_run.ensures.empty in
    let on : AreRuns (log ∷ left) = c.in_ok-start_run.ensures.settles.runs (log ∷ []) h in
    let new : found_in c.args.edit.stamp ((log ∷ left) ++ [] ∷ []) ≡ None =
    found-empty c.args.edit.stamp (log ∷ left) ∙ ap (λ (o : Option Edit). first_of o (found_in c.args.edit.stamp left)) none ∙ c.in_ok-start_run.ensures.settles.found c.args.edit.stamp ∙ c.requires.new in
    subst (λ (es : List Edit). AreRuns (log ∷ (left ++ es ∷ []))) (sym one) (runs-push laws c.args.edit (log ∷ left) [] (runs-empty (log ∷ left) on) new tt)

pub returns-clause-found : goal.returns-clause-found
returns-clause-found c = λ s.
    let laws : SetsHold =
    record { rises = c.sets_rise.ensures.edit; joins = c.sets_rise.ensures.union; known = c.rising_lists_are_sets.ensures.known } in
    let left = c.start_run.new.settled.items in
    let one : c.push_reserved-2.new.self.items ≡ c.args.edit ∷ [] =
    c.push_reserved-2.ensures.items ∙ ap (λ (es : List Edit). es ++ c.args.edit ∷ []) c.in_ok-start_run.ensures.empty in
    ap (λ (es : List Edit). found_in s (left ++ es ∷ [])) one
    ∙ found-push laws s c.args.edit left [] (runs-empty left (c.in_ok-start_run.ensures.settles.runs [] c.requires.runs)) tt
    ∙ ap (λ (o : Option Edit). first_of o (edit_with s (c.args.edit ∷ []))) (found-empty s left ∙ c.in_ok-start_run.ensures.settles.found s)

pub returns-clause-count : goal.returns-clause-count
returns-clause-count c =
    let left = c.start_run.new.settled.items in
    let one : c.push_reserved-2.new.self.items ≡ c.args.edit ∷ [] =
    c.push_reserved-2.ensures.items ∙ ap (λ (es : List Edit). es ++ c.args.edit ∷ []) c.in_ok-start_run.ensures.empty in
    let is : count_in (left ++ c.push_reserved-2.new.self.items ∷ []) ≡ count_in (left ++ (c.args.edit ∷ []) ∷ []) =
    ap (λ (es : List Edit). count_in (left ++ es ∷ [])) one in
    let last = count-last left (c.args.edit ∷ []) in
    omega (arith, is, last, c.in_ok-start_run.ensures.settles.count)
