use Rattle.std.proofs.Common.{◌≡◌, ◌≤◌, ℕ, List, take, get_or}
use Rattle.zed_live.specs.Header.{write_each}
use Rattle.zed_live.proofs.header.write_flags.Given as goal

abbrev pub invariant-loop-i : goal.invariant-loop-i
invariant-loop-i l = record {
  slots : l.slots ≡ write_each l.stamp (take l.i l.initial.values) l.initial.slots;
  rest : (j : ℕ) (d : List ℕ) → l.i ≤ j → get_or l.values j d ≡ get_or l.initial.values j d;
}
