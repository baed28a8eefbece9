use Rattle.std.proofs.Common.{◌≡◌, ◌≤◌, ◌*◌, ◌++◌, drop}
use Rattle.zed_edit.specs.Genesis.{opened_boards_from, opened_boards}
use Rattle.zed_edit.proofs.genesis.open_boards.Given as goal

abbrev pub invariant-loop-n : goal.invariant-loop-n
invariant-loop-n l = record {
  made : l.opened ++ opened_boards_from l.stamp l.n l.m l.t (drop l.n l.boards) ≡ l.initial.opened ++ opened_boards l.stamp l.boards;
  stats : l.m ≤ 151 * l.n;
  texts : l.t ≤ 151 * l.n;
}
