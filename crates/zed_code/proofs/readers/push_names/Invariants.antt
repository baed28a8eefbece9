use Rattle.std.proofs.Common.{◌≡◌, ◌≤◌, ◌+◌, ◌-◌, ◌++◌, drop, vec_len}
use Rattle.std.specs.Vec.{vec_capacity}
use Rattle.zed_code.specs.Blocks.{lists, joined}
use Rattle.zed_code.specs.Reading.{between, live_names}
use Rattle.zed_code.proofs.readers.push_names.Given as goal

-- the names so far and those of the rest are all, and there is room for the rest
abbrev pub invariant-loop-block : goal.invariant-loop-block
invariant-loop-block l = record {
  made : l.out.items ++ between l.left (live_names (joined (drop l.block-index (lists l.blocks)))) ≡ l.fn.out.items ++ between l.fn.at (live_names (joined (lists l.blocks)));
  room : vec_len l.out + (l.left.to - l.left.from) ≤ vec_capacity l.out;
}
