use Rattle.std.proofs.Common.{◌≡◌, ◌++◌, not, map, drop}
use Rattle.std.specs.Prelude.{filter}
use Rattle.zed_view.specs.View.{board_at}
use Rattle.zed_export.specs.Fields.{stat_names}
use Rattle.zed_export.proofs.numbers.stat_names.Given as goal

-- the names so far, with those of the rest, are all
abbrev pub invariant-loop-j : goal.invariant-loop-j
invariant-loop-j l = l.names.items ++ map (λ s. s.id.name) (filter (λ s. not s.removed) (drop l.j (board_at l.view l.i).stats)) ≡ stat_names (board_at l.view l.i)
