use Rattle.std.proofs.Common.{◌≡◌, drop}
use Rattle.std.specs.List.{find}
use Rattle.zed_types.specs.Names.{same_stat}
use Rattle.zed_view.specs.View.{board_at}
use Rattle.zed_view.proofs.reading.text_on.Given as goal

-- the stat is sought among the rest
abbrev pub invariant-loop-j : goal.invariant-loop-j
invariant-loop-j l =
    find (λ x. same_stat x.id l.stat) (drop l.j (board_at l.view l.i).stats) ≡ find (λ x. same_stat x.id l.stat) (board_at l.view l.i).stats
