use Rattle.std.proofs.Common.{◌≡◌, ◌+◌, ◌++◌, ◌∷◌, [], List, drop, get_or, append_assoc, append-nil, sym, ap, ◌∙◌}
use Rattle.std.proofs.lemmas.List.{drop_all, drop_more}
use Rattle.std.proofs.lemmas.List.Elements.{All-from_recursion}
use Rattle.zed_types.specs.declared.names.ElemId.{ElemId}
use Rattle.zed_code.specs.declared.run.Run.{Run}
use Rattle.zed_code.specs.Kept.{IsSound}
use Rattle.zed_code.specs.Reading.{between, live, live_names, positions_behind}
use Rattle.zed_code.proofs.Names.{behind-none, behind-twice, between-none, names-on}
use Rattle.zed_code.proofs.ReadBlocks.{live-append}
use Rattle.zed_code.proofs.Rests.{none}
use Rattle.zed_code.proofs.readers.push_names_in.Goals as goal

pub push_names_of-left-requires-clause-sound : goal.push_names_of-left-requires-clause-sound
push_names_of-left-requires-clause-sound c =
    All-from_recursion IsSound c.args.runs.now c.requires.each c.loop-run.run-index none c.loop-run-test.true

pub loop-run-preserved : goal.loop-run-preserved
loop-run-preserved c =
    let runs = c.args.runs.now in
    let i = c.loop-run.run-index in
    let r : Run = get_or runs i none in
    let rest = drop (i + 1) runs in
    let at : drop i runs ≡ r ∷ rest = drop_more runs i none c.loop-run-test.true in
    let out = c.loop-run.out.items in
    let left = c.loop-run.left in
    let here = between left (live_names (r ∷ [])) in
    let left-2 = c.push_names_of-left.result in
    record {
      made =
          ap (λ xs. xs ++ between left-2 (live_names rest)) c.push_names_of-left.ensures.items
          ∙ append_assoc out here (between left-2 (live_names rest))
          ∙ ap (λ p. out ++ (here ++ between p (live_names rest))) c.push_names_of-left.ensures.left
          ∙ ap (λ xs. out ++ xs) (sym (names-on left (r ∷ []) rest))
          ∙ sym (ap (λ rs. out ++ between left (live_names rs)) at)
          ∙ c.loop-run.invariant.made;
      behind =
          ap (positions_behind (live rest)) c.push_names_of-left.ensures.left
          ∙ behind-twice left (live (r ∷ [])) (live rest)
          ∙ ap (λ n. positions_behind n left) (sym (live-append (r ∷ []) rest) ∙ sym (ap live at))
          ∙ c.loop-run.invariant.behind;
      room = c.push_names_of-left.ensures.room;
    }

pub returns-clause-items : goal.returns-clause-items
returns-clause-items c =
    let runs = c.args.runs.now in
    let out = c.loop-run.out.items in
    let past : drop c.loop-run.run-index runs ≡ [] = drop_all c.loop-run.run-index runs c.loop-run-test.false in
    sym (append-nil out) ∙ ap (λ xs. out ++ xs) (sym (between-none ElemId c.loop-run.left))
    ∙ ap (λ rs. out ++ between c.loop-run.left (live_names rs)) (sym past) ∙ c.loop-run.invariant.made

pub returns-clause-left : goal.returns-clause-left
returns-clause-left c =
    let runs = c.args.runs.now in
    let past : drop c.loop-run.run-index runs ≡ [] = drop_all c.loop-run.run-index runs c.loop-run-test.false in
    behind-none c.loop-run.left ∙ ap (λ rs. positions_behind (live rs) c.loop-run.left) (sym past) ∙ c.loop-run.invariant.behind
