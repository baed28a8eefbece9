use Rattle.std.proofs.Common.{◌≡◌, ◌≤◌, length, take, drop}
use Rattle.std.specs.List.{AllByRecursion}
use Rattle.zed_code.specs.Blocks.{lists, HasRoom}
use Rattle.zed_code.proofs.blocks.reserve_from.Given as goal

abbrev pub invariant-loop-i : goal.invariant-loop-i
invariant-loop-i l = record {
  same : lists l.blocks.items ≡ lists l.fn.blocks.items;
  most : l.i ≤ length l.blocks.items;
  room : AllByRecursion HasRoom (drop l.first (take l.i l.blocks.items));
}
