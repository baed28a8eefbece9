use Rattle.cmd_compare.proofs.Standing.{each_comes}
use Rattle.cmd_compare.proofs.comparing.CompareCommand.finish.Goals as goal

pub returns-in-Some-second : goal.returns-in-Some-second
returns-in-Some-second c = record {
  comes = λ first files stands.
      let s = c.args.self.now in
      rw stands.0 at (each_comes s.strictness files s.first s.second c.in-Some.mine c.in-Some-second.theirs c.compared.result c.in-Some.is c.in-Some-second.is stands.3 c.compared.ensures);
}
