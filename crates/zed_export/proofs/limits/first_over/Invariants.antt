use Rattle.std.proofs.Common.{◌≡◌, ℕ, drop, map}
use Rattle.zed_view.specs.View.{board_at}
use Rattle.zed_export.specs.World.{exported_board}
use Rattle.zed_export.specs.Limits.{boards_refusal}
use Rattle.zed_export.proofs.limits.first_over.Given as goal

-- no board so far goes over a limit
abbrev pub invariant-loop-number : goal.invariant-loop-number
invariant-loop-number l =
    let shown = λ (i : ℕ). exported_board l.view (board_at l.view i) in
    boards_refusal l.limit l.number (map shown (drop l.number l.places)) ≡ boards_refusal l.limit 0 (map shown l.places)
