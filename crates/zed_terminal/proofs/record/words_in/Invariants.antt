use Rattle.std.proofs.Common.{◌≡◌, ◌++◌, ◌+◌, ◌*◌, length}
use Rattle.zed_terminal.specs.Record.{words_in}
use Rattle.zed_terminal.proofs.record.words_in.Given as goal

-- the words so far, before those that are left, are all
abbrev pub invariant-loop : goal.invariant-loop
invariant-loop l = record {
  text : l.words.items ++ words_in l.rest ≡ words_in l.bytes;
  size : length l.rest + 2 * l.counter ≡ length l.bytes;
}
