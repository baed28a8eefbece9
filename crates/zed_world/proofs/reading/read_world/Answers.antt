use Rattle.zed_world.proofs.FilesByPlace.{spelled_by}
use Rattle.zed_world.proofs.reading.read_world.Goals as goal

pub returns-clause-spelled : goal.returns-clause-spelled
returns-clause-spelled c = spelled_by c.files_are_read_by_place.ensures.spelled c.args.bytes.now c.world_of.result c.world_of.ensures.result
