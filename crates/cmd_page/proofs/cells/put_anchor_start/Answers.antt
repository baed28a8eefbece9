use Rattle.cmd_page.specs.Programs.{anchor_start}
use Rattle.cmd_page.proofs.cells.put_anchor_start.Goals as goal

pub returns : goal.returns
unfolding anchor_start
returns c = c.put_text.ensures
