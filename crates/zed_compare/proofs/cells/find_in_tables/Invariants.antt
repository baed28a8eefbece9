use Rattle.std.proofs.Common.{◌≡◌, ◌++◌, ◌-◌}
use Rattle.zed_compare.specs.Findings.{cells_from}
use Rattle.zed_compare.proofs.cells.find_in_tables.Given as goal

-- what was found by now, with what is found of the rest, is all
abbrev pub invariant-loop-i : goal.invariant-loop-i
invariant-loop-i l =
    l.found.items ++ cells_from l.id l.base l.mine l.theirs l.union l.i (1500 - l.i)
    ≡ l.fn.found.items ++ cells_from l.id l.base l.mine l.theirs l.union 0 1500
