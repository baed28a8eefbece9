use Rattle.std.proofs.Common.{◌≡◌}
use Rattle.zed_terminal.specs.Terminals.{CountedMany}
use Rattle.zed_terminal.specs.Typing.{inputs_left}
use Rattle.zed_terminal.proofs.typist.Typist.next_input.Given as goal

-- the bytes so far came to nothing
abbrev pub invariant-loop : goal.invariant-loop
invariant-loop g l = record {
  left : inputs_left l.self.reading (g.B.Bytes.bytes_left l.self.bytes) ≡ inputs_left l.fn.self.reading (g.B.Bytes.bytes_left l.fn.self.bytes);
  came : CountedMany l.counter (g.B.Bytes.bytes_came l.fn.self.bytes) (g.B.Bytes.bytes_came l.self.bytes);
  calm : g.B.Bytes.byte_failures l.self.bytes ≡ g.B.Bytes.byte_failures l.fn.self.bytes;
  failures : l.self.failures ≡ l.fn.self.failures;
}
