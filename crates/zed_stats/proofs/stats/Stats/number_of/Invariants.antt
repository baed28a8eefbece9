use Rattle.std.proofs.Common.{◌≡◌, ◌+◌, ◌≤◌, ◌++◌, filter, length}
use Rattle.zed_stats.specs.Stats.{is_alive_other, is_alive_player, number_of}
use Rattle.zed_stats.proofs.Numbers.{number_from}
use Rattle.zed_stats.proofs.stats.Stats.number_of.Given as goal

abbrev pub invariant-loop-name : goal.invariant-loop-name
invariant-loop-name l = record {
  number : number_of l.fn.id l.fn.self ≡ number_from l.fn.id l.number (filter is_alive_player l.name-iterator ++ filter is_alive_other l.fn.self);
  room : l.number + length (filter is_alive_player l.name-iterator ++ filter is_alive_other l.fn.self) ≤ length l.fn.self;
}

abbrev pub invariant-loop-name-2 : goal.invariant-loop-name-2
invariant-loop-name-2 l = record {
  number : number_of l.fn.id l.fn.self ≡ number_from l.fn.id l.number (filter is_alive_other l.name-iterator);
  room : l.number + length (filter is_alive_other l.name-iterator) ≤ length l.fn.self;
}
