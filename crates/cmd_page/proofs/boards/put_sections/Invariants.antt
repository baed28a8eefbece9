use Rattle.std.proofs.Common.{◌≡◌, ◌++◌, drop}
use Rattle.cmd_page.specs.Boards.{sections}
use Rattle.cmd_page.proofs.boards.put_sections.Given as goal

-- the parts so far, with those of the rest, are all
abbrev pub invariant-loop-number : goal.invariant-loop-number
invariant-loop-number l = l.out.items ++ sections l.number (drop l.number l.boards) ≡ l.fn.out.items ++ sections 0 l.boards
