use Rattle.std.proofs.Common.{◌≡◌, ◌++◌, ◌+◌, drop}
use Rattle.zed_look.specs.Svg.{spans_from}
use Rattle.zed_look.proofs.svg.put_rest.Given as goal

-- what was written so far, with what the rest of the row comes to, is the whole
abbrev pub invariant-loop-spot : goal.invariant-loop-spot
invariant-loop-spot l =
    (l.column + l.count ≡ 1 + l.spot-index)
    × (l.out.items ++ spans_from l.row l.column l.count l.current (drop l.spot-index l.rest) ≡ l.fn.out.items ++ spans_from l.row 0 1 l.fn.first l.rest)
