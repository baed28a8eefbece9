use Rattle.std.proofs.Common.{◌≡◌, ◌++◌, drop}
use Rattle.cmd_page.specs.Boards.{items}
use Rattle.cmd_page.proofs.boards.put_items.Given as goal

-- the lines so far, with those of the rest, are all
abbrev pub invariant-loop-number : goal.invariant-loop-number
invariant-loop-number l = l.out.items ++ items l.number (drop l.number l.boards) ≡ l.fn.out.items ++ items 0 l.boards
