use Rattle.zed_undo.specs.Choosing.{wanted_of}
use Rattle.cmd_undo.proofs.Steps.{choice_not, choice_so}
use Rattle.cmd_undo.proofs.undoing.chosen.Goals as goal

pub returns-in-Ok : goal.returns-in-Ok
returns-in-Ok c = choice_so c.args.document.now.edits (wanted_of c.args.choice.now) c.in-Ok.marks.items c.in-Ok.ensures

pub returns-in-Err : goal.returns-in-Err
returns-in-Err c = choice_not c.args.document.now.edits (wanted_of c.args.choice.now) c.in-Err.error c.choice_stop.result c.in-Err.ensures c.choice_stop.ensures
