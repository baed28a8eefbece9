use Rattle.std.proofs.Common.{◌≡◌, ◌∷◌, [], ◌++◌, List, Ok, ap, sym, ◌∙◌}
use Rattle.std.proofs.lemmas.Result.{err_from_is_err_and}
use Rattle.zed_world.specs.declared.board.BoardData.{BoardData}
use Rattle.zed_world.specs.Reading.{next_board_at}
use Rattle.zed_world.proofs.Steps.{items_on, items_end, items_done}
use Rattle.zed_world.proofs.boards.boards_of.Goals as goal

pub returns-in_err-board : goal.returns-in_err-board
unfolding next_board_at
returns-in_err-board c =
    let p = err_from_is_err_and c.from_residual.result c.from_residual.ensures.1 in
    rw (p.1, p.2) (items_end c.in_err-board.field-0.0 (next_board_at c.args.boards) c.args.boards c.loop.counter c.loop.done.items c.loop.rest.now _ c.loop-test.true c.in_err-board.ensures c.loop.invariant)

pub loop-preserved : goal.loop-preserved
unfolding next_board_at
loop-preserved c =
    let pushed : c.push.new.self.items ≡ c.loop.done.items ++ c.in_ok-board.board ∷ [] = c.in_ok-push.ensures.items in
    rw pushed (items_on (next_board_at c.args.boards) c.args.boards c.loop.counter c.loop.done.items c.loop.rest.now c.in_ok-board.board c.in_ok-board.after.now _ c.loop-test.true c.in_ok-board.ensures c.loop.invariant)

pub returns : goal.returns
returns c = items_done (next_board_at c.args.boards) c.args.boards c.loop.counter c.loop.done.items c.loop.rest.now _ c.loop-test.false c.loop.invariant ∙ ap (λ (d : List BoardData). Ok d) (sym c.from_vec.ensures)
