use Rattle.zed_cells.proofs.Latests as latests
use Rattle.zed_cells.proofs.laws.cells_hold_the_latest.Goals as goal

pub returns : goal.returns
returns c = latests.cells_hold_the_latest
