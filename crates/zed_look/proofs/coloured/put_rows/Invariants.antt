use Rattle.std.proofs.Common.{◌≡◌, ◌++◌, take, None}
use Rattle.std.specs.List.{flat_map}
use Rattle.zed_look.specs.Coloured.{coloured_row}
use Rattle.zed_look.proofs.coloured.put_rows.Given as goal

abbrev pub invariant-loop-row : goal.invariant-loop-row
invariant-loop-row l = l.out.items ≡ l.fn.out.items ++ flat_map (coloured_row None) (take l.row-index l.rows)
