use Rattle.std.proofs.Common.{refl}
use Rattle.cmd_take.proofs.Steps.{comes_now}
use Rattle.cmd_take.proofs.OpenSteps.{asks_yet, ends_done}
use Rattle.cmd_take.proofs.open.OpenCommand.finish.Goals as goal

pub returns-in-Done : goal.returns-in-Done
returns-in-Done c = record {
  comes = λ first files stands.
      let s = c.args.self.now in
      comes_now files _ _ _ _ _ stands.1 (ends_done s.until s.forcing s.file.now s.world.now s.stage c.in-Done.effect c.in-Done.ensures.value);
}

pub returns-in-Begun : goal.returns-in-Begun
returns-in-Begun c = record {
  comes = λ first files stands.
      let s = c.args.self.now in
      absurd (asks_yet s.file.now s.world.now _ s.stage _ c.in-Begun.ensures.value refl c.requires.next);
}

pub returns-in-Exported : goal.returns-in-Exported
returns-in-Exported c = record {
  comes = λ first files stands.
      let s = c.args.self.now in
      absurd (asks_yet s.file.now s.world.now _ s.stage _ c.in-Exported.ensures.value refl c.requires.next);
}

pub returns : goal.returns
returns c = record {
  comes = λ first files stands.
      let s = c.args.self.now in
      absurd (asks_yet s.file.now s.world.now _ s.stage _ c.in-Compared.ensures.value refl c.requires.next);
}
