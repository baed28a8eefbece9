use Rattle.std.proofs.Common.{◌∙◌, List, map, ap, sym}
use Rattle.zed_types.specs.declared.names.Name.{Name}
use Rattle.zed_edit.specs.declared.plain.Board.{Board}
use Rattle.zed_view.specs.View.{board_at}
use Rattle.zed_export.specs.Fields.{place_among}
use Rattle.zed_export.proofs.Beside.{none_there}
use Rattle.zed_export.proofs.Mapped.{map_twice}
use Rattle.zed_export.proofs.numbers.board_names.Goals as goal

pub returns : goal.returns
returns c =
    let name = λ (b : Board). b.id.name in
    c.in_ok-by_number.ensures ∙ map_twice (board_at c.args.view.now) name c.args.places.now ∙ ap (map name) c.requires.places.boards

pub invariant_of-result : goal.invariant_of-result
invariant_of-result c =
    let place = λ (xs ys : List Name). map (place_among xs) ys in
    record {
      each =
          c.in_ok-numbers.ensures ∙ ap (λ (xs : List Name). place xs c.deref.result.now) c.deref-2.ensures.value
          ∙ ap (place c.in_ok-by_number.by_number.items) (c.deref.ensures.value ∙ c.names.view_is);
      all = λ name missing.
          ap (λ (xs : List Name). place_among xs name) (returns c)
          ∙ none_there c.args.view.now c.requires.ordered name (ap (λ (xs : List Name). place_among xs name) (sym c.in_ok-names.ensures) ∙ missing);
    }
