use Rattle.zed_take.proofs.Limits.{written_fits}
use Rattle.zed_undo.proofs.Led.{over_has_none}
use Rattle.zed_undo.proofs.undoing.text_of.Goals as goal

pub returns-in-Ok : goal.returns-in-Ok
returns-in-Ok c = (written_fits c.args.world.now c.in-Ok.text.items c.in-Ok.ensures.result).1

pub returns-in_default : goal.returns-in_default
returns-in_default c = over_has_none c.args.world.now c.in-Err.error c.in_default.not-Memory c.in-Err.ensures.result
