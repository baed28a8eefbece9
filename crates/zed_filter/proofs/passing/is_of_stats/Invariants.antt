use Rattle.std.proofs.Common.{◌≡◌, drop}
use Rattle.std.specs.List.{list_any}
use Rattle.zed_view.specs.View.{board_at}
use Rattle.zed_filter.specs.Passing.{is_of_stat}
use Rattle.zed_filter.proofs.passing.is_of_stats.Given as goal

-- the stat is sought among the rest
abbrev pub invariant-loop-j : goal.invariant-loop-j
invariant-loop-j l =
    list_any (λ s. is_of_stat l.thing s.id s.fields.text) (drop l.j (board_at l.view l.i).stats) ≡ list_any (λ s. is_of_stat l.thing s.id s.fields.text) (board_at l.view l.i).stats
