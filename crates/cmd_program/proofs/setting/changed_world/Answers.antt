use Rattle.std.proofs.Common.{◌∙◌, ap}
use Rattle.cmd_take.specs.Stops.{drawing_stop}
use Rattle.cmd_program.proofs.SetSteps.{changed_not, changed_then}
use Rattle.cmd_program.proofs.setting.changed_world.Goals as goal

pub returns-in-Err : goal.returns-in-Err
returns-in-Err c =
    changed_not c.args.board c.args.stat c.args.program.now c.args.document.now c.in-Err.error c.drawing_stop.result c.requires c.in-Err.ensures.result
    (c.drawing_stop.ensures ∙ ap drawing_stop c.export_stop.ensures)

pub returns-in-Ok : goal.returns-in-Ok
returns-in-Ok c =
    changed_then c.args.board c.args.stat c.args.program.now c.args.document.now c.in-Ok.world (λ w. w) c.reprogrammed.result c.requires c.in-Ok.ensures.result c.reprogrammed.ensures
