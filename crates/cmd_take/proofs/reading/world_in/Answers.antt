use Rattle.std.proofs.Common.{◌∙◌, ap}
use Rattle.cmd_take.specs.Stops.{drawing_stop}
use Rattle.cmd_take.proofs.Files.{world_not, world_so}
use Rattle.cmd_take.proofs.reading.world_in.Goals as goal

pub returns-in-Ok : goal.returns-in-Ok
returns-in-Ok c = world_so c.args.bytes.now c.in-Ok.world c.in-Ok.ensures.result

pub returns-in-Err : goal.returns-in-Err
returns-in-Err c =
    world_not c.args.bytes.now c.in-Err.error c.drawing_stop.result c.in-Err.ensures.result (c.drawing_stop.ensures ∙ ap drawing_stop c.world_stop.ensures)
