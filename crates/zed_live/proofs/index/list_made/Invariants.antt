use Rattle.std.proofs.Common.{drop}
use Rattle.zed_live.specs.Listed.{Homes, StayListed, AreMadeOn}
use Rattle.zed_live.proofs.index.list_made.Given as goal

-- once the stats of the boards from here on are listed too, all are
abbrev pub invariant-loop-board : goal.invariant-loop-board
invariant-loop-board l = record {
  kept : StayListed l.fn.homes l.homes;
  left : (more : Homes) → StayListed l.homes more → AreMadeOn (drop l.board-index l.boards) more → AreMadeOn l.boards more;
}
