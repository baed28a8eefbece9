use Rattle.zed_link.proofs.Files.{files_are_pulled}
use Rattle.zed_link.proofs.laws.files_are_pulled.Goals as goal

pub returns : goal.returns
returns c = files_are_pulled c.one_reading.ensures.one c.one_reading.ensures.file c.fronts_are_read.ensures.front
