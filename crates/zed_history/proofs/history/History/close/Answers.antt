use Rattle.std.proofs.Common.{◌≡◌, ◌∙◌, ◌++◌, ◌∷◌, ◌≤◌, [], ap, sym, subst, rules, List, arith, length}
use Rattle.zed_op.specs.declared.op.Edit.{Edit}
use Rattle.zed_op.specs.Set.{union}
use Rattle.zed_history.specs.Runs.{AreRuns, count_in, joined}
use Rattle.zed_history.proofs.Opened.{SetsHold}
use Rattle.zed_history.proofs.Runs.{close-apart, count-last, joined-close, last-rises, length-union, none-more, runs-close}
use Rattle.zed_history.proofs.history.History.close.Goals as goal

pub returns-then-late-eq0 : goal.returns-then-late-eq0
returns-then-late-eq0 c =
    let late = c.self.inside.settled.items ++ c.self.inside.run.items ∷ [] in
    let few : count_in late ≤ 0 = let most = c.self.invariant.2 in omega (arith, most) in
    sym (none-more c.self.inside.log.items late few) ∙ c.self.view_is

pub move_in-requires-clause-rising : goal.move_in-requires-clause-rising
move_in-requires-clause-rising c = last-rises c.self.inside.settled.items c.self.inside.run.items c.self.invariant.0.2

pub move_in-requires-clause-new : goal.move_in-requires-clause-new
move_in-requires-clause-new c = close-apart c.self.inside.log.items c.self.inside.run.items c.self.inside.settled.items c.self.invariant.0

pub move_in-requires-clause-room : goal.move_in-requires-clause-room
move_in-requires-clause-room c =
    let last = count-last c.self.inside.settled.items c.self.inside.run.items in
    omega (arith, last, c.self.invariant.1, c.self.invariant.2)

pub loop-ended-init : goal.loop-ended-init
loop-ended-init c =
    let laws : SetsHold =
    record { rises = c.sets_rise.ensures.edit; joins = c.sets_rise.ensures.union; known = c.rising_lists_are_sets.ensures.known } in
    let log = c.self.inside.log.items in
    let run = c.self.inside.run.items in
    let settled = c.self.inside.settled.items in
    let runs : AreRuns (log ∷ (settled ++ run ∷ [])) = c.self.invariant.0 in
    let joins = c.move_in.ensures.joined in
    let most = length-union log run in
    let len : length c.move_in.new.log.items ≡ length (union log run) = ap length joins in
    let last = count-last settled run in
    record {
      runs = subst (λ (es : List Edit). AreRuns (es ∷ settled)) (sym joins) (runs-close laws log run settled runs);
      whole = ap (λ (es : List Edit). joined (es ∷ settled)) joins ∙ joined-close laws log run settled runs ∙ c.self.view_is;
      room = omega (arith, most, len, last, c.self.invariant.1, c.self.invariant.2, c.move_in.ensures.room);
    }

pub move_in-requires-in-Some-clause-new : goal.move_in-requires-in-Some-clause-new
move_in-requires-in-Some-clause-new c =
    let left = c.pop.new.self.items in
    let q = c.into_edits.result.items in
    let cut : c.loop-ended.settled.items ≡ left ++ q ∷ [] = search rules in
    close-apart c.loop-ended.log.items q left (subst (λ (rs : List (List Edit)). AreRuns (c.loop-ended.log.items ∷ rs)) cut c.loop-ended.invariant.runs)

pub move_in-requires-in-Some-clause-room : goal.move_in-requires-in-Some-clause-room
move_in-requires-in-Some-clause-room c =
    let left = c.pop.new.self.items in
    let q = c.into_edits.result.items in
    let cut : c.loop-ended.settled.items ≡ left ++ q ∷ [] = search rules in
    let count : count_in c.loop-ended.settled.items ≡ count_in (left ++ q ∷ []) = ap count_in cut in
    let last = count-last left q in
    omega (arith, last, count, c.loop-ended.invariant.room)

pub loop-ended-preserved : goal.loop-ended-preserved
loop-ended-preserved c =
    let laws : SetsHold =
    record { rises = c.sets_rise.ensures.edit; joins = c.sets_rise.ensures.union; known = c.rising_lists_are_sets.ensures.known } in
    let log = c.loop-ended.log.items in
    let left = c.pop.new.self.items in
    let q = c.into_edits.result.items in
    let cut : c.loop-ended.settled.items ≡ left ++ q ∷ [] = search rules in
    let runs : AreRuns (log ∷ (left ++ q ∷ [])) = subst (λ (rs : List (List Edit)). AreRuns (log ∷ rs)) cut c.loop-ended.invariant.runs in
    let count : count_in c.loop-ended.settled.items ≡ count_in (left ++ q ∷ []) = ap count_in cut in
    let last = count-last left q in
    let joins = c.move_in-in-Some.ensures.joined in
    let most = length-union log q in
    let len : length c.move_in-in-Some.new.log.items ≡ length (union log q) = ap length joins in
    record {
      runs = subst (λ (es : List Edit). AreRuns (es ∷ left)) (sym joins) (runs-close laws log q left runs);
      whole =
          ap (λ (es : List Edit). joined (es ∷ left)) joins ∙ joined-close laws log q left runs
          ∙ ap (λ (rs : List (List Edit)). joined (log ∷ rs)) (sym cut) ∙ c.loop-ended.invariant.whole;
      room = omega (arith, most, len, last, count, c.loop-ended.invariant.room, c.move_in-in-Some.ensures.room);
    }
