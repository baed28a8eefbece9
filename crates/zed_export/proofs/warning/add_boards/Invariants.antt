use Rattle.std.proofs.Common.{◌≡◌, ◌≤◌, ◌++◌, drop}
use Rattle.std.specs.Vec.{vec_capacity}
use Rattle.zed_export.specs.Warnings.{boards_warnings}
use Rattle.zed_export.proofs.warning.add_boards.Given as goal

-- the warnings so far, with those of the rest, are all, and there is no less room than before
abbrev pub invariant-loop-number : goal.invariant-loop-number
invariant-loop-number l = record {
  made : l.out.items ++ boards_warnings l.number (drop l.number l.boards) ≡ l.fn.out.items ++ boards_warnings 0 l.boards;
  roomy : vec_capacity l.fn.out ≤ vec_capacity l.out;
}
