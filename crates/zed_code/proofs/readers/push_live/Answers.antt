use Rattle.std.proofs.Common.{rules, ◌≡◌, ◌+◌, ◌++◌, ◌∷◌, ℕ, List, Vec, Global, Bool, true, false, cond, drop, get_or, length, vec_len, sym, ap, ◌∙◌, arith, append_assoc}
use Rattle.std.proofs.lemmas.List.{drop_more}
use Rattle.std.proofs.lemmas.List.Elements.{All-from_recursion}
use Rattle.zed_types.specs.Text.{alive_bytes}
use Rattle.zed_code.specs.declared.run.Run.{Run}
use Rattle.zed_code.specs.Cutting.{spelled, bytes_in}
use Rattle.zed_code.specs.Kept.{IsRun}
use Rattle.zed_code.specs.Reading.{live}
use Rattle.zed_code.proofs.Alive.{alive-next, dead-next}
use Rattle.zed_code.proofs.Rests.{none}
use Rattle.zed_code.proofs.Spelling.{bytes-count}
use Rattle.zed_code.proofs.readers.push_live.Goals as goal
use Rattle.zed_code.proofs.readers.push_live.Goals.{then-run, else-run}

count : (r : Run) (rs : List Run) (b : Bool) → r.alive ≡ b → live (r ∷ rs) ≡ cond b (r.len + live rs) (live rs)
count r rs b is = ap (λ (a : Bool). cond a (r.len + live rs) (live rs)) is

pub loop-run-preserved : goal.loop-run-preserved
loop-run-preserved c =
    let store = c.args.store.now in
    let runs = c.args.runs.now in
    let out = c.loop-run.out in
    let r : Run = get_or runs c.loop-run.run-index none in
    let rest = drop (c.loop-run.run-index + 1) runs in
    let at : drop c.loop-run.run-index runs ≡ r ∷ rest = drop_more runs c.loop-run.run-index none c.loop-run-test.true in
    let was = sym (ap (λ rs. out.items ++ alive_bytes (spelled store rs)) at) ∙ c.loop-run.invariant.made in
    elim c.if-run.branch [
      | then-run w ↦
          let is : IsRun store r = All-from_recursion (IsRun store) runs c.requires.each c.loop-run.run-index none c.loop-run-test.true in
          let put : c.if-run.out.items ≡ out.items ++ w.bytes_of.result.now = search rules in
          let len : vec_len c.if-run.out ≡ vec_len out + length w.bytes_of.result.now = search rules in
          let more = ap live at ∙ count r rest true w.if-run.true in
          record {
            made =
                ap (λ xs. xs ++ alive_bytes (spelled store rest)) (put ∙ ap (λ xs. out.items ++ xs) w.bytes_of.ensures)
                ∙ append_assoc out.items (bytes_in store r) (alive_bytes (spelled store rest))
                ∙ ap (λ xs. out.items ++ xs) (sym (alive-next store r rest w.if-run.true)) ∙ was;
            used = omega (arith, len, ap length w.bytes_of.ensures, bytes-count store r is, more, c.loop-run.invariant.used);
            capacity = search rules;
          }
      | else-run w ↦
          let more = ap live at ∙ count r rest false w.if-run.false in
          record {
            made =
                ap (λ (v : Vec ℕ Global). v.items ++ alive_bytes (spelled store rest)) w.out-is
                ∙ ap (λ xs. out.items ++ xs) (sym (dead-next store r rest w.if-run.false)) ∙ was;
            used = omega (arith, ap (λ (v : Vec ℕ Global). vec_len v) w.out-is, more, c.loop-run.invariant.used);
            capacity = search rules;
          }
    ]
