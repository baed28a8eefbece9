use Rattle.cmd_page.specs.Programs.{cell_start}
use Rattle.cmd_page.proofs.cells.put_cell_start.Goals as goal

pub returns : goal.returns
unfolding cell_start
returns c = c.put_text.ensures
