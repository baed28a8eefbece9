use Rattle.std.proofs.Common.{Ok, refl}
use Rattle.cmd_program.proofs.SetSteps.{reprograms_not}
use Rattle.cmd_program.proofs.setting.reprogrammed.Goals as goal

pub returns-in-Ok : goal.returns-in-Ok
returns-in-Ok c = (Ok c.in-Ok.world, c.in-Ok.ensures.result, refl)

pub returns-in-Err : goal.returns-in-Err
returns-in-Err c =
    reprograms_not c.args.world.now c.args.board c.args.stat c.args.program.now c.in-Err.error c.reprogram_stop.result c.in-Err.ensures.result c.reprogram_stop.ensures
