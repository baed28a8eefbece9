use Rattle.cmd_program.proofs.Prints.{prints_not, prints_so}
use Rattle.cmd_program.proofs.printing.printed_text.Goals as goal

pub returns-in-Ok : goal.returns-in-Ok
returns-in-Ok c =
    prints_so c.args.document.now c.in-Ok.world c.args.board c.args.stat c.board_text.result c.requires c.in-Ok.ensures.result c.board_text.ensures

pub returns-in-Err : goal.returns-in-Err
returns-in-Err c =
    prints_not c.args.document.now c.args.board c.args.stat c.in-Err.error c.export_stop.result c.requires c.in-Err.ensures.result c.export_stop.ensures
