use Rattle.std.proofs.Common.{◌∙◌, ℕ, List, map, ap, sym, arith}
use Rattle.zed_view.specs.View.{board_at}
use Rattle.zed_export.specs.Limits.{boards_refusal}
use Rattle.zed_export.specs.World.{exported_board}
use Rattle.zed_export.proofs.Mapped.{exported_at}
use Rattle.zed_export.proofs.Within.{first_of_boards}
use Rattle.zed_export.proofs.limits.first_limit.Goals as goal

pub returns : goal.returns
returns c =
    let p = c.args.view.now in
    let over = λ (places : List ℕ). boards_refusal c.args.limit 0 (map (λ i. exported_board p (board_at p i)) places) in
    first_of_boards c.args.limit p c.first_over.result (sym c.has_title.ensures ∙ c.if-not-has_title.false) (omega (arith, c.alive_boards.ensures, c.saturating_sub-boards.ensures))
    (c.first_over.ensures ∙ ap over c.as_slice.ensures ∙ ap (boards_refusal c.args.limit 0) (exported_at p c.boards_by_number-places.result.items c.boards_by_number-places.ensures))
