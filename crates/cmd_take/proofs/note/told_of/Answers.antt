use Rattle.std.proofs.Common.{◌≡◌, ◌∙◌, ap, inr, map, refl}
use Rattle.zed_view.specs.View.{board_at}
use Rattle.cmd_take.specs.Changes.{world_boards}
use Rattle.cmd_take.proofs.Noting.{notes, slips}
use Rattle.cmd_take.proofs.note.told_of.Goals as goal

pub returns-then-are_too_many : goal.returns-then-are_too_many
returns-then-are_too_many c =
    let placed : map (board_at c.args.view.now) c.as_slice-places.result.now ≡ world_boards c.args.view.now =
    ap (map (board_at c.args.view.now)) c.as_slice-places.ensures ∙ c.boards_by_number-order.ensures.boards in
    inr (slips c.args.forcing c.args.view.now c.args.edits.now c.as_slice-places.result.now _ c.in_ok-removed.removed c.are_too_many.result
    placed refl c.in_ok-removed.ensures c.are_too_many.ensures c.if-are_too_many.true)

pub returns : goal.returns
returns c =
    let placed : map (board_at c.args.view.now) c.as_slice-places.result.now ≡ world_boards c.args.view.now =
    ap (map (board_at c.args.view.now)) c.as_slice-places.ensures ∙ c.boards_by_number-order.ensures.boards in
    notes c.args.forcing c.args.view.now c.args.edits.now c.as_slice-places.result.now _ c.in_ok-removed.removed c.are_too_many.result _
    placed refl c.in_ok-removed.ensures c.are_too_many.ensures c.if-are_too_many.false c.in_ok-note_of.ensures
