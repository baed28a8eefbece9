use Rattle.std.proofs.Common.{ap}
use Rattle.cmd_take.specs.OpenStages.{open_next}
use Rattle.cmd_take.proofs.Steps.{wants_now}
use Rattle.cmd_take.proofs.OpenSteps.{next_is_wanted}
use Rattle.cmd_take.proofs.open.OpenCommand.next_file.Goals as goal

pub returns-in-Begun-clause-wants : goal.returns-in-Begun-clause-wants
returns-in-Begun-clause-wants c = λ first files stands.
    let s = c.args.self.now in
    wants_now files _ _ _ _ _ stands.1 (next_is_wanted s.until s.forcing s.file.now s.world.now s.stage _ (ap (open_next s.file.now s.world.now) c.in-Begun.is))

pub returns-in-Exported-clause-wants : goal.returns-in-Exported-clause-wants
returns-in-Exported-clause-wants c = λ first files stands.
    let s = c.args.self.now in
    wants_now files _ _ _ _ _ stands.1 (next_is_wanted s.until s.forcing s.file.now s.world.now s.stage _ (ap (open_next s.file.now s.world.now) c.in-Exported.is))

pub returns-in-Compared-clause-wants : goal.returns-in-Compared-clause-wants
returns-in-Compared-clause-wants c = λ first files stands.
    let s = c.args.self.now in
    rw c.as_str.ensures.value (wants_now files _ _ _ _ _ stands.1 (next_is_wanted s.until s.forcing s.file.now s.world.now s.stage _ (ap (open_next s.file.now s.world.now) c.in-Compared.is)))
