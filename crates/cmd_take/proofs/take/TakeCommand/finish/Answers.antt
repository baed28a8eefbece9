use Rattle.std.proofs.Common.{refl}
use Rattle.zed_files.specs.Texts.{text_in}
use Rattle.cmd_take.proofs.Steps.{comes_now}
use Rattle.cmd_take.proofs.TakeSteps.{asks_yet, ends_done, none_for_no_author}
use Rattle.cmd_take.proofs.take.TakeCommand.finish.Goals as goal

pub returns-in-Begun : goal.returns-in-Begun
returns-in-Begun c = record {
  comes = λ first files stands.
      let s = c.args.self.now in
      comes_now files _ _ _ _ _ stands.1 (none_for_no_author (text_in s.base) s.file.now s.replica s.forcing s.world.now s.stage c.in-Begun.ensures.value c.requires.next);
}

pub returns-in-Done : goal.returns-in-Done
returns-in-Done c = record {
  comes = λ first files stands.
      let s = c.args.self.now in
      comes_now files _ _ _ _ _ stands.1 (ends_done (text_in s.base) s.file.now s.replica s.forcing s.world.now s.stage c.in-Done.effect c.in-Done.ensures.value);
}

pub returns-in-Opened : goal.returns-in-Opened
returns-in-Opened c = record {
  comes = λ first files stands.
      let s = c.args.self.now in
      absurd (asks_yet s.file.now s.replica s.world.now _ s.stage _ c.in-Opened.ensures.value refl c.requires.next);
}

pub returns : goal.returns
returns c = record {
  comes = λ first files stands.
      let s = c.args.self.now in
      absurd (asks_yet s.file.now s.replica s.world.now _ s.stage _ c.in-Based.ensures.value refl c.requires.next);
}
