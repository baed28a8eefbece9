use Rattle.std.proofs.Common.{◌≡◌, ◌+◌, ◌≤◌, length, drop}
use Rattle.std.specs.Prelude.{filter}
use Rattle.zed_view.specs.View.{board_at}
use Rattle.cmd_take.specs.Changes.{is_reprogrammed}
use Rattle.cmd_take.proofs.changes.programs_in.Given as goal

-- those counted, with those of the rest, are all
abbrev pub invariant-loop-j : goal.invariant-loop-j
invariant-loop-j l = record {
  counts : l.count + length (filter (is_reprogrammed l.edits) (drop l.j (board_at l.view l.i).stats)) ≡ length (filter (is_reprogrammed l.edits) (board_at l.view l.i).stats);
  within : l.count ≤ l.j;
}
