use Rattle.std.proofs.Common.{◌≡◌, ◌-◌, [], length}
use Rattle.zed_world.specs.Reading.{stat_at, items_at}
use Rattle.zed_world.proofs.stats.stats_of.Given as goal

abbrev pub invariant-loop : goal.invariant-loop
invariant-loop l = record {
  counted : length l.done.items ≡ l.counter;
  so_far : items_at (stat_at l.boards l.stats l.tiles) (l.stats - l.counter) l.done.items l.rest ≡ items_at (stat_at l.boards l.stats l.tiles) l.stats [] l.bytes;
}
