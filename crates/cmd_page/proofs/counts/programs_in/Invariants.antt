use Rattle.std.proofs.Common.{◌≡◌, ◌+◌, drop}
use Rattle.cmd_page.specs.Page.{programs_in}
use Rattle.cmd_page.proofs.counts.programs_in.Given as goal

-- the programs so far, with those of the rest, are all
abbrev pub invariant-loop-board : goal.invariant-loop-board
invariant-loop-board l = l.count + programs_in (drop l.board-index l.boards) ≡ programs_in l.boards
