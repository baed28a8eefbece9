use Rattle.std.proofs.Common.{◌≡◌, ◌+◌, length, take, vec_capacity}
use Rattle.zed_history.proofs.moving.open_gap.Given as goal

abbrev pub invariant-loop : goal.invariant-loop
invariant-loop l = record {
  front : take (length l.fn.log.items) l.log.items ≡ l.fn.log.items;
  count : length l.log.items ≡ length l.fn.log.items + l.counter;
  capacity : vec_capacity l.log ≡ vec_capacity l.fn.log;
}
