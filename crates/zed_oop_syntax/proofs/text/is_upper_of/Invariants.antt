use Rattle.std.proofs.Common.{◌≡◌, ◌-◌, ◌≤◌, length, drop}
use Rattle.std.specs.Str.{bytes_eq}
use Rattle.zed_oop_syntax.specs.Text.{upper}
use Rattle.zed_oop_syntax.proofs.text.is_upper_of.Given as goal

abbrev pub invariant-loop-i : goal.invariant-loop-i
invariant-loop-i l = record {
  same : bytes_eq (upper (drop l.i l.bytes)) (drop l.i l.word) ≡ bytes_eq (upper l.bytes) l.word;
  long : length l.bytes ≡ length l.word;
  within : l.i ≤ length l.bytes;
}

abbrev pub decreases-loop-i : goal.decreases-loop-i
decreases-loop-i l = length l.bytes - l.i
