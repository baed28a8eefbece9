use Rattle.std.proofs.Common.{◌≡◌, ◌∙◌, ◌<◌, ◌+◌, ◌++◌, List, ◌∷◌, length, drop, get_or, ap, subst, arith, vec_len}
use Rattle.std.specs.Vec.{vec_capacity}
use Rattle.std.proofs.lemmas.List.{drop_more}
use Rattle.std.proofs.lemmas.Result.{err_from_is_err_and}
use Rattle.zed_world.specs.declared.board.BoardData.{BoardData}
use Rattle.zed_export.specs.Warnings.{board_warnings, boards_warnings}
use Rattle.zed_export.proofs.Warned.{lacks_part}
use Rattle.zed_export.proofs.warning.add_boards.Goals as goal

pub returns-in_err-add_board-clause-memory_only_when : goal.returns-in_err-add_board-clause-memory_only_when
returns-in_err-add_board-clause-memory_only_when c =
    let p = err_from_is_err_and c.from_residual.result c.from_residual.ensures.1 in
    let bs = c.args.boards.now in
    let b = c.index-boards-number.result in
    let n = c.loop-number.number in
    let out = c.loop-number.out in
    let before = c.args.out.now in
    let is : get_or bs n b ≡ b = cc (c.index-boards-number.is) in
    let step : drop n bs ≡ b ∷ drop (n + 1) bs =
    drop_more bs n b c.loop-number-test.true ∙ ap (λ (y : BoardData). y ∷ drop (n + 1) bs) is in
    let whole = subst (λ (l : List BoardData). out.items ++ boards_warnings n l ≡ before.items ++ boards_warnings 0 bs) step c.loop-number.invariant.made in
    let none = lacks_part before.items out.items (boards_warnings 0 bs) (board_warnings n b) (boards_warnings (n + 1) (drop (n + 1) bs)) (vec_capacity before) (vec_capacity out)
    whole c.loop-number.invariant.roomy (omega (arith, c.in_err-add_board.ensures.memory_only_when)) in
    let lacking : vec_capacity before < vec_len before + length (boards_warnings 0 bs) = omega (arith, none) in
    rw p.1 lacking
