use Rattle.std.proofs.Common.{◌≡◌, ◌++◌, ◌+◌, ◌*◌, length}
use Rattle.cmd_show.specs.Shown.{chances_in}
use Rattle.cmd_show.proofs.playing.chances_of.Given as goal

-- the words so far, before those that are left, are all
abbrev pub invariant-loop : goal.invariant-loop
invariant-loop l = record {
  text : l.words.items ++ chances_in l.rest ≡ chances_in l.bytes;
  size : length l.rest + 2 * l.counter ≡ length l.bytes;
}
