use Rattle.std.proofs.Common.{◌≡◌, ◌++◌, map}
use Rattle.std.specs.List.{range_with_len}
use Rattle.zed_scroll.specs.Window.{window_spot}
use Rattle.zed_scroll.proofs.text.put_spots.Given as goal

abbrev pub invariant-loop-column : goal.invariant-loop-column
invariant-loop-column l =
    l.spots.items ≡ l.fn.spots.items ++ map (window_spot l.scroll l.line l.window.lines l.row) (range_with_len 0 l.column)
