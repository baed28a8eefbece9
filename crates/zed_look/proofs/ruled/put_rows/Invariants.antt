use Rattle.std.proofs.Common.{◌≡◌, ◌++◌, ◌+◌, drop}
use Rattle.zed_look.specs.Ruled.{ruled_rows}
use Rattle.zed_look.proofs.ruled.put_rows.Given as goal

-- what was written so far, with what the other rows come to, is the whole
abbrev pub invariant-loop-spots : goal.invariant-loop-spots
invariant-loop-spots l =
    (l.row ≡ 1 + l.spots-index)
    × (l.out.items ++ ruled_rows l.row (drop l.spots-index l.rows) ≡ l.fn.out.items ++ ruled_rows 1 l.rows)
