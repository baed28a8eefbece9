use Rattle.std.proofs.Common.{◌≡◌, ◌∙◌, ◌++◌, ◌∷◌, [], List, length, arith, ap, sym, subst, append_assoc}
use Rattle.std.proofs.lemmas.List.{length-append}
use Rattle.zed_op.specs.declared.op.Edit.{Edit}
use Rattle.zed_op.specs.Set.{union}
use Rattle.zed_history.specs.Runs.{AreRuns, count_in, found_in}
use Rattle.zed_history.proofs.Opened.{SetsHold}
use Rattle.zed_history.proofs.Runs.{count-merge, found-merge, last-pair, last-rises, last-two, runs-merge}
use Rattle.zed_history.proofs.run.settle.Goals as goal

pub move_in-requires-clause-log_rising : goal.move_in-requires-clause-log_rising
move_in-requires-clause-log_rising c =
    (last-pair c.loop-below.settled.items c.take_short.new.settled.items c.in-Some.below.items c.loop-below.edits.items c.in-Some.ensures.some.0 (c.loop-below.invariant.settles.runs [] c.requires.runs)).first

pub move_in-requires-clause-rising : goal.move_in-requires-clause-rising
move_in-requires-clause-rising c =
    last-rises c.loop-below.settled.items c.loop-below.edits.items (c.loop-below.invariant.settles.runs [] c.requires.runs)

pub move_in-requires-clause-new : goal.move_in-requires-clause-new
move_in-requires-clause-new c =
    (last-pair c.loop-below.settled.items c.take_short.new.settled.items c.in-Some.below.items c.loop-below.edits.items c.in-Some.ensures.some.0 (c.loop-below.invariant.settles.runs [] c.requires.runs)).apart

pub loop-below-preserved : goal.loop-below-preserved
loop-below-preserved c =
    let laws : SetsHold =
    record { rises = c.sets_rise.ensures.edit; joins = c.sets_rise.ensures.union; known = c.rising_lists_are_sets.ensures.known } in
    let old = c.loop-below.invariant in
    let left = c.take_short.new.settled.items in
    let below = c.in-Some.below.items in
    let edits = c.loop-below.edits.items in
    let joins = c.move_in.ensures.joined in
    let is = c.in-Some.ensures.some.0 in
    let path : c.loop-below.settled.items ++ edits ∷ [] ≡ left ++ below ∷ edits ∷ [] =
    last-two c.loop-below.settled.items left below edits is in
    let pair = last-pair c.loop-below.settled.items left below edits is (old.settles.runs [] c.requires.runs) in
    let front_length = length-append left (below ∷ []) in
    let cut_length : length c.loop-below.settled.items ≡ length (left ++ below ∷ []) = ap length is in
    let merged = count-merge left below edits in
    let count_is : count_in (left ++ c.move_in.new.log.items ∷ []) ≡ count_in (left ++ union below edits ∷ []) =
    ap (λ (es : List Edit). count_in (left ++ es ∷ [])) joins in
    let same = ap count_in path in
    record {
      settles = record {
        runs = λ before h.
            let cut = subst (λ (rs : List (List Edit)). AreRuns (before ++ rs)) path (old.settles.runs before h) in
            let shifted = subst AreRuns (sym (append_assoc before left (below ∷ edits ∷ []))) cut in
            let back =
            subst AreRuns (append_assoc before left (union below edits ∷ [])) (runs-merge laws (before ++ left) below edits shifted) in
            subst (λ (es : List Edit). AreRuns (before ++ (left ++ es ∷ []))) (sym joins) back;
        found = λ s. ap (λ (es : List Edit). found_in s (left ++ es ∷ [])) joins ∙ found-merge laws s left below edits pair.first ∙ sym (ap (found_in s) path) ∙ old.settles.found s;
        count = omega (arith, merged, count_is, same, old.settles.count);
      };
      free = omega (arith, front_length, cut_length, old.free, c.take_short.ensures.capacity);
    }

pub of-requires : goal.of-requires
of-requires c = last-rises c.loop-below.settled.items c.loop-below.edits.items (c.loop-below.invariant.settles.runs [] c.requires.runs)
