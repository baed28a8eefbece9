use Rattle.zed_compare.proofs.Exits.{exit_read}
use Rattle.zed_compare.proofs.boards.exit.Goals as goal

pub returns : goal.returns
returns c = λ b is.
    exit_read c.args.views.now b c.args.board.now c.args.edge c.exit_in.result c.exit_in-2.result c.exit_in-3.result c.exit_in-4.result c.overridden.result is
    (rw (← c.board.view_is) (c.exit_in.ensures b)) (rw (← c.board.view_is) (c.exit_in-2.ensures b)) (rw (← c.board.view_is) (c.exit_in-3.ensures b)) (rw (← c.board.view_is) (c.exit_in-4.ensures b))
    c.overridden.ensures
