use Rattle.std.proofs.Common.{◌≡◌, ◌++◌}
use Rattle.zed_live.specs.Listed.{boards_with}
use Rattle.zed_live.proofs.Kept.{boards_here, found_one}
use Rattle.zed_live.proofs.index.one_home.Given as goal

-- the board found so far, with those from here on, are all that the stat is listed with
abbrev pub invariant-loop-home : goal.invariant-loop-home
invariant-loop-home l = record {
  left : found_one l.one ++ boards_here l.fn.stat l.home-iterator ≡ boards_with l.fn.stat l.pairs.keys;
}
