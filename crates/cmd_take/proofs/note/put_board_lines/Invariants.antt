use Rattle.std.proofs.Common.{◌≡◌, ◌++◌, drop, map}
use Rattle.zed_view.specs.View.{board_at}
use Rattle.cmd_take.specs.Note.{board_lines}
use Rattle.cmd_take.proofs.note.put_board_lines.Given as goal

-- the lines so far, with those of the rest, are all
abbrev pub invariant-loop-number : goal.invariant-loop-number
invariant-loop-number l =
    l.out.items ++ board_lines l.edits l.number (map (board_at l.view) (drop l.number l.places)) ≡ l.fn.out.items ++ board_lines l.edits 0 (map (board_at l.view) l.places)
