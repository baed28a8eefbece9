use Rattle.std.proofs.Common.{◌≡◌, ◌≤◌, ◌+◌, ◌++◌, drop, length}
use Rattle.std.specs.List.{filter_map}
use Rattle.zed_types.specs.Table.{map_from}
use Rattle.zed_edit.specs.Genesis.{own_program, opened_text}
use Rattle.zed_edit.proofs.genesis.open_texts_of.Given as goal

abbrev pub invariant-loop-stat : goal.invariant-loop-stat
invariant-loop-stat l = record {
  made : l.texts ++ map_from (opened_text l.stamp) l.next (filter_map own_program (drop l.stat-index l.stats)) ≡ l.initial.texts ++ map_from (opened_text l.stamp) l.t (filter_map own_program l.stats);
  number : l.next + length (filter_map own_program (drop l.stat-index l.stats)) ≡ l.t + length (filter_map own_program l.stats);
  few : l.next ≤ l.t + l.stat-index;
}
