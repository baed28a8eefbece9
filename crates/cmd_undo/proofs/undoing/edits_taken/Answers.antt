use Rattle.cmd_take.proofs.Drawing.{taken_is}
use Rattle.cmd_undo.proofs.Steps.{none_taken}
use Rattle.cmd_undo.proofs.undoing.edits_taken.Goals as goal

pub edits_to-requires : goal.edits_to-requires
edits_to-requires c = c.requires

pub returns-in-Ok : goal.returns-in-Ok
returns-in-Ok c = record {
  taken = taken_is c.args.document.now c.args.document.now c.args.world.now c.args.replica c.in-Ok.edits.items c.in-Ok.ensures.taken;
  fit = c.in-Ok.ensures.taken.lead.fit;
  joins = c.in-Ok.ensures.taken.lead.joins;
}

pub returns-in-Err : goal.returns-in-Err
returns-in-Err c = record {
  taken = none_taken c.args.document.now c.args.world.now c.args.replica c.in-Err.error c.take_stop.result c.requires c.in-Err.ensures.err c.take_stop.ensures;
  fit = tt;
  joins = tt;
}
