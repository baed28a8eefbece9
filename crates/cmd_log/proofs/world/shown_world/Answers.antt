use Rattle.zed_types.specs.declared.limits.TheConstants.{READ_BODY_LIMIT}
use Rattle.cmd_log.proofs.Exported.{exported_so, none_over, stopped_over}
use Rattle.cmd_log.proofs.world.shown_world.Goals as goal

pub returns-in-Ok-clause-world : goal.returns-in-Ok-clause-world
returns-in-Ok-clause-world c =
    (exported_so READ_BODY_LIMIT c.args.document.now c.in-Ok.world c.requires.sound c.in-Ok.ensures.result).0

pub returns-in-Ok-clause-within : goal.returns-in-Ok-clause-within
returns-in-Ok-clause-within c = λ told.
    none_over told _ (exported_so READ_BODY_LIMIT c.args.document.now c.in-Ok.world c.requires.sound c.in-Ok.ensures.result).1

pub returns-in-Err-clause-err : goal.returns-in-Err-clause-err
returns-in-Err-clause-err c = λ told.
    stopped_over told READ_BODY_LIMIT c.args.document.now c.in-Err.error c.export_stop.result c.requires.sound c.in-Err.ensures.result c.export_stop.ensures
