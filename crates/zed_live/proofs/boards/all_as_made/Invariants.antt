use Rattle.std.proofs.Common.{◌≡◌, ◌++◌, drop}
use Rattle.zed_live.specs.Boards.{all_as_made}
use Rattle.zed_live.proofs.boards.all_as_made.Given as goal

-- what was made so far, with what is left to make, is the whole
abbrev pub invariant-loop-board : goal.invariant-loop-board
invariant-loop-board l = l.made.items ++ all_as_made l.stamp (drop l.board-index l.boards) ≡ all_as_made l.stamp l.boards
