use Rattle.std.proofs.Common.{◌≡◌, ◌+◌, ◌≤◌, not, length, drop}
use Rattle.std.specs.Prelude.{filter}
use Rattle.zed_edit.specs.Numbers.{alive_stats}
use Rattle.zed_view.specs.View.{board_at}
use Rattle.zed_export.proofs.limits.alive_stats.Given as goal

-- those counted, with those of the rest, are all
abbrev pub invariant-loop-j : goal.invariant-loop-j
invariant-loop-j l = record {
  counts : l.count + length (filter (λ s. not s.removed) (drop l.j (board_at l.view l.i).stats)) ≡ length (alive_stats (board_at l.view l.i));
  within : l.count ≤ l.j;
}
