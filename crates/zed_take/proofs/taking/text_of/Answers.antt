use Rattle.std.proofs.Common.{sym}
use Rattle.zed_take.proofs.Limits.{told_none, told_over, written_fits}
use Rattle.zed_take.proofs.taking.text_of.Goals as goal

pub returns-in-Ok-clause-fits : goal.returns-in-Ok-clause-fits
returns-in-Ok-clause-fits c = (written_fits c.args.world.now c.in-Ok.text.items c.in-Ok.ensures.result).0

pub returns-in-Ok-clause-text : goal.returns-in-Ok-clause-text
returns-in-Ok-clause-text c = (written_fits c.args.world.now c.in-Ok.text.items c.in-Ok.ensures.result).1

pub returns-in-Some-clause-over : goal.returns-in-Some-clause-over
returns-in-Some-clause-over c = told_over c.args.world.now c.in-Err.error c.in-Some.over c.in-Err.ensures.result (sym c.in-Some.ensures)

pub returns-in-None-clause-fits : goal.returns-in-None-clause-fits
returns-in-None-clause-fits c =
    told_none c.args.world.now c.in-Err.error c.in-Err.ensures.result c.in-Err.ensures.memory_only_when (sym c.in-None.ensures)
