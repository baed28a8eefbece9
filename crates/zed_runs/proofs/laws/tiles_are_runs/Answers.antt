use Rattle.zed_runs.proofs.Tiles.{runs_tiles, tiles_of_runs, tiles_whole}
use Rattle.zed_runs.proofs.laws.tiles_are_runs.Goals as goal

pub returns : goal.returns
returns c = record { whole = tiles_whole; read = tiles_of_runs; all = λ front rest tiles r. runs_tiles tiles front rest r }
