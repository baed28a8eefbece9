use Rattle.cmd_program.proofs.SetSteps.{some_replica}
use Rattle.cmd_program.proofs.setting.SetProgram.after.Goals as goal

pub read-requires : goal.read-requires
read-requires c =
    let s = c.args.self.now in some_replica s.file.now s.replica s.text.now (rw c.in-Begun.is at c.requires)
