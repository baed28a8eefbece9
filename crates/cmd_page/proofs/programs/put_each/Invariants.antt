use Rattle.std.proofs.Common.{◌≡◌, ◌++◌, drop}
use Rattle.cmd_page.specs.Programs.{programs}
use Rattle.cmd_page.proofs.programs.put_each.Given as goal

-- the programs so far, with those of the rest, are all
abbrev pub invariant-loop-number : goal.invariant-loop-number
invariant-loop-number l = l.out.items ++ programs l.board l.number (drop l.number l.stats) ≡ l.fn.out.items ++ programs l.board 0 l.stats
