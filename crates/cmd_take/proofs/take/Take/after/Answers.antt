use Rattle.cmd_take.proofs.TakeSteps.{some_replica}
use Rattle.cmd_take.proofs.take.Take.after.Goals as goal

pub opened-requires : goal.opened-requires
opened-requires c =
    let s = c.args.self.now in some_replica s.file.now s.replica s.world.now (rw c.in-Begun.is at c.requires.next)
