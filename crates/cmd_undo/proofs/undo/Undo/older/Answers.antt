use Rattle.std.proofs.Common.{arith}
use Rattle.cmd_undo.proofs.undo.Undo.older.Goals as goal

pub last-requires : goal.last-requires
last-requires c = c.requires

pub array_drop-newer-inside-requires : goal.array_drop-newer-inside-requires
array_drop-newer-inside-requires c = grind arith

pub returns-in-Ok-clause-leads : goal.returns-in-Ok-clause-leads
returns-in-Ok-clause-leads c = c.in-Ok.ensures

pub returns-in-Ok-clause-fewer : goal.returns-in-Ok-clause-fewer
returns-in-Ok-clause-fewer c = grind arith

pub array_drop-newer-inside-requires-2 : goal.array_drop-newer-inside-requires-2
array_drop-newer-inside-requires-2 c = grind arith

pub returns-clause-leads : goal.returns-clause-leads
returns-clause-leads c = c.in-Err.ensures
