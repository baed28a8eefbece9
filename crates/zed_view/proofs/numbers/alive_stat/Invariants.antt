use Rattle.std.proofs.Common.{◌≡◌, not, drop, filter, slice_get}
use Rattle.zed_edit.specs.Numbers.{alive_stats}
use Rattle.zed_view.specs.View.{board_at}
use Rattle.zed_view.proofs.numbers.alive_stat.Given as goal

-- the stat is sought among the rest, under the number that is left
abbrev pub invariant-loop-j : goal.invariant-loop-j
invariant-loop-j l =
    slice_get (filter (λ s. not s.removed) (drop l.j (board_at l.view l.i).stats)) l.left ≡ slice_get (alive_stats (board_at l.view l.i)) l.n
