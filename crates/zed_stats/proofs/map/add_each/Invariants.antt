use Rattle.std.proofs.Common.{◌≡◌, ◌≤◌, length, IsSorted}
use Rattle.indexmap.specs.IndexMap.{keys, spare}
use Rattle.zed_stats.specs.ByName.{key_cmp, add_all}
use Rattle.zed_stats.proofs.map.add_each.Given as goal

-- what was added so far, with what is left, is the whole, for which there is room
abbrev pub invariant-loop-entry : goal.invariant-loop-entry
invariant-loop-entry g l = record {
  added : add_all g.K.Named.name l.entry-iterator.rest.items l.entries.entries ≡ add_all g.K.Named.name l.fn.more.items l.fn.entries.entries;
  room : length l.entry-iterator.rest.items ≤ spare l.entries;
  sorted : IsSorted (key_cmp g.K.Named.name) (keys l.entries);
}
