use Rattle.std.proofs.Common.{◌≡◌, ◌++◌, drop}
use Rattle.zed_look.specs.Svg.{svg_rows}
use Rattle.zed_look.proofs.svg.put_rows.Given as goal

-- what was written so far, with what the other rows come to, is the whole
abbrev pub invariant-loop-spots : goal.invariant-loop-spots
invariant-loop-spots l =
    (l.row ≡ l.spots-index)
    × (l.out.items ++ svg_rows l.row (drop l.spots-index l.rows) ≡ l.fn.out.items ++ svg_rows 0 l.rows)
