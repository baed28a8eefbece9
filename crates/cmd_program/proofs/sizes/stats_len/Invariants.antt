use Rattle.std.proofs.Common.{◌≡◌, length, take}
use Rattle.std.specs.List.{flat_map}
use Rattle.zed_world.specs.Writing.{stat_text}
use Rattle.cmd_program.proofs.sizes.stats_len.Given as goal

abbrev pub invariant-loop-stat : goal.invariant-loop-stat
invariant-loop-stat l = l.bytes ≡ length (flat_map stat_text (take l.stat-index l.stats))
