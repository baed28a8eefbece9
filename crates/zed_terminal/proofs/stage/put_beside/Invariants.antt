use Rattle.std.proofs.Common.{◌≡◌, ◌++◌, ◌-◌, ◌≤◌, map}
use Rattle.std.specs.List.{range_with_len}
use Rattle.zed_terminal.specs.Staged.{spot_beside}
use Rattle.zed_terminal.proofs.stage.put_beside.Given as goal

abbrev pub invariant-loop-column : goal.invariant-loop-column
invariant-loop-column l =
    (60 ≤ l.column) × (l.out.items ≡ l.fn.out.items ++ map (spot_beside l.play l.row) (range_with_len 60 (l.column - 60)))
