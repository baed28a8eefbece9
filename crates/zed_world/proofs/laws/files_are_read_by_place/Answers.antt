use Rattle.zed_world.proofs.FilesByPlace.{TilesAreRuns, file_found, file_read}
use Rattle.zed_world.proofs.laws.files_are_read_by_place.Goals as goal

pub returns : goal.returns
returns c =
    let law : TilesAreRuns = record { read = c.tiles_are_runs.ensures.read; all = c.tiles_are_runs.ensures.all } in
    record { spelled = file_found law; read = file_read law }
