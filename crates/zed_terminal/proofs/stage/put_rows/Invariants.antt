use Rattle.std.proofs.Common.{◌≡◌, ◌++◌, ◌-◌, ◌≤◌, None}
use Rattle.std.specs.List.{flat_map, range_with_len}
use Rattle.zed_look.specs.Coloured.{coloured_row}
use Rattle.zed_terminal.specs.Staged.{stage_row}
use Rattle.zed_terminal.proofs.stage.put_rows.Given as goal

abbrev pub invariant-loop-row : goal.invariant-loop-row
invariant-loop-row l =
    (l.part.first ≤ l.row)
    × (l.out.items ≡ l.fn.out.items ++ flat_map (λ row. coloured_row None (stage_row l.part.columns l.part.left l.part.first l.play row)) (range_with_len l.part.first (l.row - l.part.first)))
