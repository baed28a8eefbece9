use Rattle.std.proofs.Common.{◌≡◌, find}
use Rattle.zed_live.specs.Boards.{home_in}
use Rattle.zed_live.proofs.Kept.{boards_here, is_on}
use Rattle.zed_live.proofs.index.first_home.Given as goal

-- the first board from here on that has the stat is its home
abbrev pub invariant-loop-home : goal.invariant-loop-home
invariant-loop-home l = record {
  left : find (is_on l.fn.stat l.entries.entries) (boards_here l.fn.stat l.home-iterator) ≡ home_in l.fn.stat l.entries.entries;
}
