use Rattle.zed_cells.proofs.Latests as latests
use Rattle.zed_cells.proofs.laws.order_is_forgotten.Goals as goal

pub returns-clause-latest : goal.returns-clause-latest
returns-clause-latest g c = latests.latest_is_held

pub returns-clause-order : goal.returns-clause-order
returns-clause-order g c = latests.order_is_forgotten
