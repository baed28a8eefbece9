use Rattle.std.proofs.Common.{◌≡◌, ◌++◌, drop, take, refl, sym, ap, ◌∙◌}
use Rattle.zed_code.specs.Blocks.{runs_of}
use Rattle.zed_code.specs.Reading.{live_names}
use Rattle.zed_code.specs.Text.{elements, names_between}
use Rattle.zed_code.proofs.Names.{names-shown}
use Rattle.zed_code.proofs.PutBytes.{shown}
use Rattle.zed_code.proofs.text.Text.append_names.Goals as goal

pub returns-clause-ok : goal.returns-clause-ok
returns-clause-ok c =
    let store = c.self.inside.store.items in
    let runs = runs_of c.self.inside.blocks.items in
    let from = c.args.from in
    let to = c.args.to in
    let all = names-shown store runs c.self.invariant.kept.each ∙ ap (λ bs. live_names (runs_of bs)) (sym c.deref.ensures.value) in
    let told : names_between from to (elements c.args.self.now) ≡ drop from (take to (live_names (runs_of c.deref.result.now))) =
    ap (names_between from to) (shown store runs _ c.args.self.now refl c.self.view_is) ∙ ap (λ xs. drop from (take to xs)) all in
    c.push_names.ensures
    ∙ ap (λ xs. xs ++ drop from (take to (live_names (runs_of c.deref.result.now)))) c.reserve.ensures.items
    ∙ ap (λ xs. c.args.out.now.items ++ xs) (sym told)
