use Rattle.cmd_program.proofs.SetSteps.{spelled_not, spelled_so}
use Rattle.cmd_program.proofs.setting.spelled.Goals as goal

pub returns-in-Err : goal.returns-in-Err
returns-in-Err c = spelled_not c.args.text.now c.in-Err.error c.text_stop.result c.in-Err.ensures.program c.text_stop.ensures

pub returns-in-Ok : goal.returns-in-Ok
returns-in-Ok c = spelled_so c.args.text.now _ c.in-Ok.ensures.program
