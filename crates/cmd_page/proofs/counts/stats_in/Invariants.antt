use Rattle.std.proofs.Common.{◌≡◌, ◌+◌, drop}
use Rattle.cmd_page.specs.Page.{stats_in}
use Rattle.cmd_page.proofs.counts.stats_in.Given as goal

-- the stats so far, with those of the rest, are all
abbrev pub invariant-loop-board : goal.invariant-loop-board
invariant-loop-board l = l.count + stats_in (drop l.board-index l.boards) ≡ stats_in l.boards
