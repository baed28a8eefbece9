use Rattle.std.proofs.Common.{◌≡◌, ◌++◌, List, map, not, sym, ap, ◌∙◌, arith, append-nil}
use Rattle.std.specs.Prelude.{filter}
use Rattle.std.proofs.lemmas.List.{drop_all}
use Rattle.zed_edit.specs.declared.plain.Board.{Board}
use Rattle.zed_edit.specs.Numbers.{boards_there}
use Rattle.zed_export.proofs.Ordered.{names_there_rise}
use Rattle.zed_export.proofs.numbers.names_there.Goals as goal

pub invariant_of-result : goal.invariant_of-result
invariant_of-result c =
    let items = c.loop-i.names.items in
    let bs = c.args.view.now.boards in
    let rest = λ (left : List Board). items ++ map (λ b. b.id.name) (filter (λ b. not b.removed) left) in
    let all : items ≡ map (λ b. b.id.name) (boards_there c.args.view.now) =
    sym (append-nil items) ∙ ap rest (sym (drop_all c.loop-i.i bs (omega (arith, c.boards-i-end.ensures)))) ∙ c.loop-i.invariant in
    rw all (names_there_rise c.args.view.now c.requires)
