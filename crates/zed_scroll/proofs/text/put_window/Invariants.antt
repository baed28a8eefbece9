use Rattle.std.proofs.Common.{◌≡◌, ◌++◌}
use Rattle.std.specs.List.{flat_map, range_with_len}
use Rattle.zed_scroll.specs.Text.{placed_row}
use Rattle.zed_scroll.proofs.text.put_window.Given as goal

abbrev pub invariant-loop-row : goal.invariant-loop-row
invariant-loop-row l = l.out.items ≡ l.fn.out.items ++ flat_map (placed_row l.scroll l.line l.window) (range_with_len 0 l.row)
