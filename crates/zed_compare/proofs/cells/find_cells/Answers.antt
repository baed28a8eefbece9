use Rattle.zed_laws.specs.Winners.{find_board}
use Rattle.zed_compare.specs.Findings.{cell_findings}
use Rattle.zed_join.specs.Things.{IsBoard}
use Rattle.zed_compare.proofs.Kept.{found_kept, kept_each}
use Rattle.zed_compare.proofs.cells.find_cells.Goals as goal

pub returns-clause-registers : goal.returns-clause-registers
returns-clause-registers c =
    kept_each (λ w. IsBoard w c.args.id c.args.board.now) (λ w. cell_findings w c.args.id) c.find_in_views.result
    c.args.found.now.items c.find_in_views.new.found.items c.find_in_views.ensures
    (λ w. found_kept c.args.id (find_board c.args.id w.base.boards) (find_board c.args.id w.mine.boards) (find_board c.args.id w.theirs.boards) (find_board c.args.id w.union.boards))
