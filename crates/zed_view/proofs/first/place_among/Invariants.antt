use Rattle.std.proofs.Common.{◌≡◌, ◌++◌, map, take, drop}
use Rattle.zed_view.specs.First.{put}
use Rattle.zed_view.specs.View.{board_at}
use Rattle.zed_view.proofs.first.place_among.Given as goal

-- the board comes before none so far
abbrev pub invariant-loop-k : goal.invariant-loop-k
invariant-loop-k l =
    let at = board_at l.view in
    map at (take l.k l.first) ++ put (at l.i) (map at (drop l.k l.first)) ≡ put (at l.i) (map at l.first)
