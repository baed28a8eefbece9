use Rattle.std.proofs.Common.{refl}
use Rattle.cmd_take.proofs.Steps.{comes_now}
use Rattle.cmd_program.proofs.SetSteps.{asks_yet, ends_done, none_for_no_author}
use Rattle.cmd_program.proofs.setting.SetProgramCommand.finish.Goals as goal

pub returns-in-Begun : goal.returns-in-Begun
returns-in-Begun c = record {
  comes = λ first files stands.
      let s = c.args.self.now in
      comes_now files _ _ _ _ _ stands (none_for_no_author s.file.now s.replica s.board s.stat s.text.now s.stage c.in-Begun.ensures.value c.requires.next);
}

pub returns-in-Done : goal.returns-in-Done
returns-in-Done c = record {
  comes = λ first files stands.
      let s = c.args.self.now in
      comes_now files _ _ _ _ _ stands (ends_done s.file.now s.replica s.board s.stat s.stage c.in-Done.effect c.in-Done.ensures.value);
}

pub returns : goal.returns
returns c = record {
  comes = λ first files stands.
      let s = c.args.self.now in
      absurd (asks_yet s.file.now s.replica s.text.now _ s.stage _ c.in-Read.ensures.value refl c.requires.next);
}
