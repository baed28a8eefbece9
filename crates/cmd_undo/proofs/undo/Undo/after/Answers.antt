use Rattle.cmd_undo.specs.Undoing.{meaning_of}
use Rattle.cmd_undo.proofs.UndoSteps.{some_replica}
use Rattle.cmd_undo.proofs.undo.Undo.after.Goals as goal

pub opened-requires : goal.opened-requires
opened-requires c =
    let s = c.args.self.now in some_replica s.file.now s.replica (meaning_of s.source) (rw c.in-Begun.is at c.requires.next)
