use Rattle.std.proofs.Common.{◌≡◌, ◌++◌, drop}
use Rattle.cmd_page.specs.Programs.{marks}
use Rattle.cmd_page.proofs.cells.put_marks.Given as goal

-- the cells so far, with those of the rest, are all
abbrev pub invariant-loop-number : goal.invariant-loop-number
invariant-loop-number l = l.out.items ++ marks l.board l.number (drop l.number l.stats) ≡ l.fn.out.items ++ marks l.board 0 l.stats
