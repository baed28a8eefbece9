use Rattle.zed_runs.proofs.Greedy.{greedy_reads}
use Rattle.zed_runs.proofs.Tiles.{greedy_tiles}
use Rattle.zed_runs.proofs.laws.greedy_is_read.Goals as goal

pub returns : goal.returns
returns c = record { runs = greedy_reads; back = greedy_tiles }
