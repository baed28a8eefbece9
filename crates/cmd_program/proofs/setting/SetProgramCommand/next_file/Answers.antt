use Rattle.std.proofs.Common.{ap}
use Rattle.cmd_take.proofs.Steps.{wants_now}
use Rattle.cmd_program.specs.Stages.{next_of}
use Rattle.cmd_program.proofs.SetSteps.{first_is_wanted, next_is_wanted}
use Rattle.cmd_program.proofs.setting.SetProgramCommand.next_file.Goals as goal

pub returns-else-self-eq0-clause-wants : goal.returns-else-self-eq0-clause-wants
returns-else-self-eq0-clause-wants c = λ first files stands.
    let s = c.args.self.now in
    wants_now files _ _ _ _ _ stands (first_is_wanted s.file.now s.replica s.text.now s.stage c.in-Begun.is c.if-self-eq0.false)

pub returns-in-Read-clause-wants : goal.returns-in-Read-clause-wants
returns-in-Read-clause-wants c = λ first files stands.
    let s = c.args.self.now in
    wants_now files _ _ _ _ _ stands (next_is_wanted s.file.now s.replica s.text.now s.stage _ (ap (next_of s.file.now s.replica s.text.now) c.in-Read.is))
