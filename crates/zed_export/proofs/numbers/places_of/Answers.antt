use Rattle.std.proofs.Common.{◌∙◌, ◌++◌, ℕ, List, [], ◌∷◌, Option, get_or, map, take, sym, ap}
use Rattle.std.proofs.lemmas.List.{map_push, take_more}
use Rattle.zed_types.specs.declared.names.Name.{Name}
use Rattle.zed_export.specs.Fields.{place_among}
use Rattle.zed_export.proofs.numbers.places_of.Goals as goal

pub loop-name-preserved : goal.loop-name-preserved
loop-name-preserved c =
    let names = c.args.names.now in
    let i = c.loop-name.name-index in
    let place = place_among c.args.others.now in
    let none : Name = record { stamp = record { time = 0; replica = 0 }; index = 0 } in
    c.in_ok-push.ensures.items
    ∙ ap (λ (ps : List (Option ℕ)). ps ++ c.place_in.result ∷ []) c.loop-name.invariant
    ∙ ap (λ (o : Option ℕ). map place (take i names) ++ o ∷ []) c.place_in.ensures
    ∙ sym (map_push place (take i names) (get_or names i none))
    ∙ ap (map place) (sym (take_more names i none c.loop-name-test.true))
