use Rattle.std.proofs.Common.{◌≡◌, ◌≤◌, length}
use Rattle.zed_terminal.specs.Course.{Plays, course, point}
use Rattle.zed_terminal.specs.Devices.{chances}
use Rattle.zed_terminal.specs.Stage.{stage}
use Rattle.zed_terminal.proofs.turns.play_on.Given as goal

-- so many turns were made and drawn, and no device failed; nor was the terminal left
abbrev pub invariant-loop : goal.invariant-loop
invariant-loop g l = record {
  plays : Plays (g.A.Atlas.world l.fn.atlas) l.counter
      (course (point l.fn.tape) (stage (g.T.Terminal.drawn l.fn.terminal) (g.T.Terminal.draws_foretell l.fn.terminal)
      (g.I.Inputs.left l.fn.inputs) (g.I.Inputs.inputs_foretell l.fn.inputs) (chances (g.C.Chance.to_come l.fn.chance) (g.C.Chance.chance_failures l.fn.chance))))
      (course (point l.tape) (stage (g.T.Terminal.drawn l.terminal) (g.T.Terminal.draws_foretell l.terminal)
      (g.I.Inputs.left l.inputs) (g.I.Inputs.inputs_foretell l.inputs) (chances (g.C.Chance.to_come l.chance) (g.C.Chance.chance_failures l.chance))));
  within : l.tape.used ≤ length l.tape.words.items;
  keys : g.I.Inputs.input_failures l.inputs ≡ g.I.Inputs.input_failures l.fn.inputs;
  screen : g.T.Terminal.draw_failures l.terminal ≡ g.T.Terminal.draw_failures l.fn.terminal;
  left : g.T.Terminal.times_left l.terminal ≡ g.T.Terminal.times_left l.fn.terminal;
  calm : g.C.Chance.chance_failures l.chance ≡ g.C.Chance.chance_failures l.fn.chance;
}
