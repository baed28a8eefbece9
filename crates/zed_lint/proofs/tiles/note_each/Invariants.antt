use Rattle.std.proofs.Common.{◌≡◌, ◌++◌, drop}
use Rattle.zed_lint.specs.Found.{each_from}
use Rattle.zed_lint.specs.Tiles.{tile_findings}
use Rattle.zed_lint.proofs.tiles.note_each.Given as goal

-- what was found by now, with what is found of the rest, is all
abbrev pub invariant-loop-i : goal.invariant-loop-i
invariant-loop-i l =
    l.found.items ++ each_from (tile_findings l.number l.board) l.i (drop l.i l.tiles) ≡ l.fn.found.items ++ each_from (tile_findings l.number l.board) 0 l.tiles
