use Rattle.std.proofs.Common.{◌≡◌, ◌++◌, List, map, not, sym, ap, ◌∙◌, arith, append-nil}
use Rattle.std.specs.Prelude.{filter}
use Rattle.std.proofs.lemmas.List.{drop_all}
use Rattle.zed_edit.specs.declared.plain.Stat.{Stat}
use Rattle.zed_view.specs.View.{board_at, no_board}
use Rattle.zed_laws.specs.NameOrder.{StatsRise}
use Rattle.zed_export.specs.Fields.{stat_names}
use Rattle.zed_export.proofs.Ordered.{all_at, stat_names_rise}
use Rattle.zed_export.proofs.numbers.stat_names.Goals as goal

pub invariant_of-result : goal.invariant_of-result
invariant_of-result c =
    let items = c.loop-j.names.items in
    let b = board_at c.args.view.now c.args.i in
    let rest = λ (left : List Stat). items ++ map (λ s. s.id.name) (filter (λ s. not s.removed) left) in
    let all : items ≡ stat_names b =
    sym (append-nil items) ∙ ap rest (sym (drop_all c.loop-j.j b.stats (omega (arith, c.stats-j-end.ensures)))) ∙ c.loop-j.invariant in
    rw all (stat_names_rise b (all_at StatsRise c.args.view.now.boards c.args.i no_board c.requires.board c.requires.ordered.stats))
