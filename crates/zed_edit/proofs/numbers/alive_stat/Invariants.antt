use Rattle.std.proofs.Common.{◌≡◌, drop, slice_get}
use Rattle.zed_edit.proofs.Finding.{alive_stats}
use Rattle.zed_edit.proofs.numbers.alive_stat.Given as goal

abbrev pub invariant-loop-s : goal.invariant-loop-s
invariant-loop-s l = slice_get (alive_stats (drop l.s-index l.stats)) l.left ≡ slice_get (alive_stats l.stats) l.n
