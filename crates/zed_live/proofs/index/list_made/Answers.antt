use Rattle.std.proofs.Common.{subst}
use Rattle.zed_edit.specs.declared.plain.Board.{Board}
use Rattle.zed_live.specs.Listed.{AreOn}
use Rattle.zed_live.proofs.Kept.{stay_through, still_on, one_back}
use Rattle.zed_live.proofs.index.list_made.Goals as goal

pub loop-board-preserved : goal.loop-board-preserved
loop-board-preserved c =
    let new = c.list_stats.new.homes in
    let board = c.board-item.result in
    let one : AreOn board.id board.stats new = subst (λ xs. AreOn board.id xs new) c.as_slice.ensures c.in_ok-list_stats.ensures.ok in
    record {
      kept = stay_through c.args.homes.now c.loop-board.homes new c.loop-board.invariant.kept c.list_stats.ensures.kept;
      left = λ more stay on.
          c.loop-board.invariant.left more (stay_through c.loop-board.homes new more c.list_stats.ensures.kept stay)
          (one_back (λ (b : Board). AreOn b.id b.stats more) c.args.boards.now c.loop-board.board-index board c.loop-board-test.true
          (subst (λ (b : Board). AreOn b.id b.stats more) c.board-item.is (still_on board.id board.stats new more stay one)) on);
    }
