use Rattle.std.proofs.Common.{◌≡◌, ◌≤◌, ◌+◌, ◌++◌, drop, vec_len}
use Rattle.std.specs.Vec.{vec_capacity}
use Rattle.zed_types.specs.Text.{alive_bytes}
use Rattle.zed_code.specs.Blocks.{lists, joined}
use Rattle.zed_code.specs.Cutting.{spelled}
use Rattle.zed_code.specs.Reading.{live}
use Rattle.zed_code.proofs.text.Text.append_to.Given as goal

-- the live bytes so far and those of the rest are all, and there is room for the rest
abbrev pub invariant-loop-block : goal.invariant-loop-block
invariant-loop-block l = record {
  made : l.out.items ++ alive_bytes (spelled l.self-inside.store.items (joined (drop l.block-index (lists l.self-inside.blocks.items))))
      ≡ l.fn.out.items ++ alive_bytes (spelled l.self-inside.store.items (joined (lists l.self-inside.blocks.items)));
  room : vec_len l.out + live (joined (drop l.block-index (lists l.self-inside.blocks.items))) ≤ vec_capacity l.out;
}
