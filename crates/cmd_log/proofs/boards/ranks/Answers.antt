use Rattle.std.proofs.Common.{◌≡◌, ◌∙◌, sym, ap, map}
use Rattle.std.proofs.lemmas.List.{take_all}
use Rattle.std.proofs.lemmas.Result.{IfOk-weaker}
use Rattle.std.proofs.lemmas.Simd.{map-map}
use Rattle.zed_edit.specs.declared.plain.Board.{Board}
use Rattle.zed_edit.specs.Numbers.{alive_boards, boards_there}
use Rattle.zed_laws.proofs.ApartBoards.{boards_there_are_apart}
use Rattle.zed_view.proofs.Firsts.{first-so}
use Rattle.zed_view.specs.View.{board_at}
use Rattle.cmd_log.proofs.boards.ranks.Goals as goal

-- the boards at the places, by number
pub returns : goal.returns
returns c =
    let p = c.args.view.now in
    let places = c.as_slice.result.now in
    let are : map (board_at p) places ≡ alive_boards p =
    ap (map (board_at p)) c.as_slice.ensures ∙ c.first_boards-places.ensures.boards ∙ first-so 101 (boards_there p) (boards_there_are_apart p c.requires.ordered) ∙ take_all 101 (alive_boards p) c.requires.few in
    IfOk-weaker c.ranks_at.result _ _ (λ r h. h
    ∙ sym (map-map (λ (b : Board). b.properties.rank) (board_at p) places)
    ∙ ap (map (λ (b : Board). b.properties.rank)) are) c.ranks_at.ensures
