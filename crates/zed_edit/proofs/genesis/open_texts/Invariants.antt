use Rattle.std.proofs.Common.{◌≡◌, ◌≤◌, ◌*◌, ◌++◌, drop}
use Rattle.zed_types.specs.Table.{map_from}
use Rattle.zed_edit.specs.Genesis.{programs_of, opened_text, opened_texts}
use Rattle.zed_edit.proofs.genesis.open_texts.Given as goal

abbrev pub invariant-loop-board : goal.invariant-loop-board
invariant-loop-board l = record {
  made : l.texts ++ map_from (opened_text l.stamp) l.t (programs_of (drop l.board-index l.boards)) ≡ l.initial.texts ++ opened_texts l.stamp l.boards;
  few : l.t ≤ 151 * l.board-index;
}
