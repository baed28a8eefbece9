use Rattle.std.proofs.Common.{arith}
use Rattle.cmd_undo.proofs.undo.Undo.last.Goals as goal

pub between-requires : goal.between-requires
between-requires c = c.requires

pub array_drop-document-inside-requires : goal.array_drop-document-inside-requires
array_drop-document-inside-requires c = grind arith

pub returns : goal.returns
returns c = c.between.ensures
