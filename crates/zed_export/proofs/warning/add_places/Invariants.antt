use Rattle.std.proofs.Common.{◌≡◌, ◌≤◌, ◌++◌, [], take, drop}
use Rattle.std.specs.Vec.{vec_capacity}
use Rattle.zed_export.specs.Warnings.{place_warnings}
use Rattle.zed_export.proofs.warning.add_places.Given as goal

-- the warnings so far, with those of the rest, are all, and there is no less room than before
abbrev pub invariant-loop-j : goal.invariant-loop-j
invariant-loop-j l = record {
  made : l.out.items ++ place_warnings l.number (take l.j l.stats) (drop l.j l.stats) ≡ l.fn.out.items ++ place_warnings l.number [] l.stats;
  roomy : vec_capacity l.fn.out ≤ vec_capacity l.out;
}
