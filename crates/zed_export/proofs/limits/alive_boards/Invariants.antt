use Rattle.std.proofs.Common.{◌≡◌, ◌+◌, ◌≤◌, not, length, drop}
use Rattle.std.specs.Prelude.{filter}
use Rattle.zed_edit.specs.Numbers.{boards_there}
use Rattle.zed_export.proofs.limits.alive_boards.Given as goal

-- those counted, with those of the rest, are all
abbrev pub invariant-loop-i : goal.invariant-loop-i
invariant-loop-i l = record {
  counts : l.count + length (filter (λ b. not b.removed) (drop l.i l.view.boards)) ≡ length (boards_there l.view);
  within : l.count ≤ l.i;
}
