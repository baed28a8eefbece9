use Rattle.std.proofs.Common.{◌≡◌, ◌*◌, ◌++◌, ℕ, List, length}
use Rattle.zed_terminal.specs.Course.{LacksWords, point}
use Rattle.zed_terminal.specs.Devices.{Brings}
use Rattle.zed_terminal.proofs.tape.Tape.supply.Given as goal

-- the words that came so far, 32 at a time, are too few, and nothing else has changed
abbrev pub invariant-loop : goal.invariant-loop
invariant-loop g l = record {
  came : List ℕ;
  size : length came ≡ 32 * l.counter;
  words : l.self.words.items ≡ l.fn.self.words.items ++ came;
  brings : Brings came (g.C.Chance.to_come l.fn.chance) (g.C.Chance.to_come l.chance);
  lacks : LacksWords l.fn.key l.fn.self.play ((point l.fn.self).left ++ came);
  play : l.self.play ≡ l.fn.self.play;
  keys : l.self.keys ≡ l.fn.self.keys;
  used : l.self.used ≡ l.fn.self.used;
  screen : l.self.size ≡ l.fn.self.size;
  overlay : l.self.overlay ≡ l.fn.self.overlay;
  calm : g.C.Chance.chance_failures l.chance ≡ g.C.Chance.chance_failures l.fn.chance;
}
