use Rattle.std.proofs.Common.{◌≡◌, ◌++◌, drop, None}
use Rattle.zed_look.specs.Coloured.{coloured_row}
use Rattle.zed_look.proofs.coloured.put_row.Given as goal

-- what was written so far, with what the rest of the row comes to, is the whole
abbrev pub invariant-loop-spot : goal.invariant-loop-spot
invariant-loop-spot l = l.out.items ++ coloured_row l.before (drop l.spot-index l.row) ≡ l.fn.out.items ++ coloured_row None l.row
