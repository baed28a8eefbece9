use Rattle.std.proofs.Common.{◌∙◌, ap}
use Rattle.cmd_take.specs.Stops.{drawing_stop}
use Rattle.cmd_undo.proofs.Shown.{not_shown, shown}
use Rattle.cmd_undo.proofs.undoing.world_shown.Goals as goal

pub returns-in-Ok : goal.returns-in-Ok
returns-in-Ok c = shown c.args.document.now c.in-Ok.world c.requires c.in-Ok.ensures.result

pub returns-in-Err : goal.returns-in-Err
returns-in-Err c =
    not_shown c.args.document.now c.in-Err.error c.drawing_stop.result c.requires c.in-Err.ensures.result (c.drawing_stop.ensures ∙ ap drawing_stop c.export_stop.ensures)
