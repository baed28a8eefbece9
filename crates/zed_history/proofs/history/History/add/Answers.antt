use Rattle.std.proofs.Common.{◌≡◌, ◌∙◌, ◌++◌, ◌∷◌, [], None, ap, sym, subst, rules, List, arith, length}
use Rattle.zed_op.specs.declared.op.Edit.{Edit}
use Rattle.zed_op.specs.Set.{with_edit}
use Rattle.zed_history.specs.Finding.{AllBelow, edit_with, first_of}
use Rattle.zed_history.specs.Runs.{AreRuns, found_in, joined}
use Rattle.zed_history.proofs.Lookups.{first-assoc}
use Rattle.zed_history.proofs.Opened.{SetsHold}
use Rattle.std.proofs.lemmas.List.{length-append}
use Rattle.zed_history.proofs.Runs.{first-both, found-first, found-whole, joined-more, runs-first}
use Rattle.zed_history.proofs.history.History.add.Goals as goal

pub invariant_of-self-then-is_latest : goal.invariant_of-self-then-is_latest
invariant_of-self-then-is_latest c =
    let laws : SetsHold =
    record { rises = c.sets_rise.ensures.edit; joins = c.sets_rise.ensures.union; known = c.rising_lists_are_sets.ensures.known } in
    let log = c.self.inside.log.items in
    let late = c.self.inside.settled.items ++ c.self.inside.run.items ∷ [] in
    let runs : AreRuns (log ∷ late) = c.self.invariant.0 in
    let new : found_in c.args.edit.stamp (log ∷ late) ≡ None =
    sym (found-whole laws c.args.edit.stamp (log ∷ late) c.args.self.now runs c.self.view_is) ∙ c.requires.new in
    let below : AllBelow c.args.edit.stamp log = search rules in
    let items : c.push_reserved.new.self.items ≡ log ++ c.args.edit ∷ [] =
    c.push_reserved.ensures.items ∙ ap (λ (es : List Edit). es ++ c.args.edit ∷ []) c.in_ok-make_room.ensures.kept in
    let kept = ap length c.in_ok-make_room.ensures.kept in
    let count : length c.push_reserved.new.self.items ≡ length (log ++ c.args.edit ∷ []) = ap length items in
    let sum = length-append log (c.args.edit ∷ []) in (
      subst (λ (es : List Edit). AreRuns (es ∷ late)) (sym items) (runs-first laws c.args.edit log late runs new below),
      omega (arith, kept, count, sum, c.in_ok-make_room.ensures.room, c.push_reserved.ensures.capacity),
      c.self.invariant.2,
      tt,
    )

pub returns-then-is_latest-clause-ok : goal.returns-then-is_latest-clause-ok
returns-then-is_latest-clause-ok c =
    let laws : SetsHold =
    record { rises = c.sets_rise.ensures.edit; joins = c.sets_rise.ensures.union; known = c.rising_lists_are_sets.ensures.known } in
    let log = c.self.inside.log.items in
    let late = c.self.inside.settled.items ++ c.self.inside.run.items ∷ [] in
    let runs : AreRuns (log ∷ late) = c.self.invariant.0 in
    let new : found_in c.args.edit.stamp (log ∷ late) ≡ None =
    sym (found-whole laws c.args.edit.stamp (log ∷ late) c.args.self.now runs c.self.view_is) ∙ c.requires.new in
    let below : AllBelow c.args.edit.stamp log = search rules in
    let items : c.push_reserved.new.self.items ≡ log ++ c.args.edit ∷ [] =
    c.push_reserved.ensures.items ∙ ap (λ (es : List Edit). es ++ c.args.edit ∷ []) c.in_ok-make_room.ensures.kept in
    let more : AreRuns ((log ++ c.args.edit ∷ []) ∷ late) = runs-first laws c.args.edit log late runs new below in
    ap (λ (es : List Edit). joined (es ∷ late)) items
    ∙ joined-more laws c.args.edit (log ∷ late) ((log ++ c.args.edit ∷ []) ∷ late) runs more (λ s. found-first laws s c.args.edit log late runs new below)
    ∙ ap (with_edit c.args.edit) c.self.view_is

pub put_late-requires-clause-new : goal.put_late-requires-clause-new
put_late-requires-clause-new c =
    let laws : SetsHold =
    record { rises = c.sets_rise.ensures.edit; joins = c.sets_rise.ensures.union; known = c.rising_lists_are_sets.ensures.known } in
    let log = c.self.inside.log.items in
    let late = c.self.inside.settled.items ++ c.self.inside.run.items ∷ [] in
    let new : found_in c.args.edit.stamp (log ∷ late) ≡ None =
    sym (found-whole laws c.args.edit.stamp (log ∷ late) c.args.self.now c.self.invariant.0 c.self.view_is) ∙ c.requires.new in
    (first-both (edit_with c.args.edit.stamp log) (found_in c.args.edit.stamp late) new).1

pub invariant_of-self-2 : goal.invariant_of-self-2
invariant_of-self-2 c =
    let laws : SetsHold =
    record { rises = c.sets_rise.ensures.edit; joins = c.sets_rise.ensures.union; known = c.rising_lists_are_sets.ensures.known } in
    let log = c.self.inside.log.items in
    let late = c.self.inside.settled.items ++ c.self.inside.run.items ∷ [] in
    let runs : AreRuns (log ∷ late) = c.self.invariant.0 in
    let new : found_in c.args.edit.stamp (log ∷ late) ≡ None =
    sym (found-whole laws c.args.edit.stamp (log ∷ late) c.args.self.now runs c.self.view_is) ∙ c.requires.new in
    let both = first-both (edit_with c.args.edit.stamp log) (found_in c.args.edit.stamp late) new in
    let late' = c.put_late.new.settled.items ++ c.put_late.new.run.items ∷ [] in
    let more : AreRuns (log ∷ late') = c.in_ok-put_late.ensures.runs log runs both.0 in (
      subst (λ (es : List Edit). AreRuns (es ∷ late')) (sym c.in_ok-make_room.ensures.kept) more,
      c.in_ok-make_room.ensures.room,
      omega (arith, c.in_ok-put_late.ensures.count, c.self.invariant.2),
      tt,
    )

pub returns-clause-ok : goal.returns-clause-ok
returns-clause-ok c =
    let laws : SetsHold =
    record { rises = c.sets_rise.ensures.edit; joins = c.sets_rise.ensures.union; known = c.rising_lists_are_sets.ensures.known } in
    let log = c.self.inside.log.items in
    let late = c.self.inside.settled.items ++ c.self.inside.run.items ∷ [] in
    let runs : AreRuns (log ∷ late) = c.self.invariant.0 in
    let new : found_in c.args.edit.stamp (log ∷ late) ≡ None =
    sym (found-whole laws c.args.edit.stamp (log ∷ late) c.args.self.now runs c.self.view_is) ∙ c.requires.new in
    let both = first-both (edit_with c.args.edit.stamp log) (found_in c.args.edit.stamp late) new in
    let late' = c.put_late.new.settled.items ++ c.put_late.new.run.items ∷ [] in
    let more : AreRuns (log ∷ late') = c.in_ok-put_late.ensures.runs log runs both.0 in
    ap (λ (es : List Edit). joined (es ∷ late')) c.in_ok-make_room.ensures.kept
    ∙ joined-more laws c.args.edit (log ∷ late) (log ∷ late') runs more
    (λ s. ap (first_of (edit_with s log)) (c.in_ok-put_late.ensures.found s) ∙ sym (first-assoc (edit_with s log) (found_in s late) (edit_with s (c.args.edit ∷ []))))
    ∙ ap (with_edit c.args.edit) c.self.view_is
