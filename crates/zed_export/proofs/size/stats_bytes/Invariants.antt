use Rattle.std.proofs.Common.{◌≡◌, ◌≤◌, ◌+◌, length, drop, []}
use Rattle.std.specs.Prelude.{filter, not}
use Rattle.std.specs.List.{flat_map}
use Rattle.zed_world.specs.Writing.{stat_text}
use Rattle.zed_edit.specs.Numbers.{alive_stats}
use Rattle.zed_view.specs.View.{board_at}
use Rattle.zed_export.specs.World.{exported_above}
use Rattle.zed_export.specs.Limits.{told}
use Rattle.zed_export.proofs.size.stats_bytes.Given as goal

-- the bytes so far, with those of the stats that are left
abbrev pub invariant-loop-j : goal.invariant-loop-j
invariant-loop-j l =
    let b = board_at l.view l.i in
    let left = filter (λ s. not s.removed) (drop l.j b.stats) in
    record {
      counts : told (l.bytes + length (flat_map stat_text (exported_above l.view b l.texts.items left))) ≡ told (length (flat_map stat_text (exported_above l.view b [] (alive_stats b))));
      room : length l.texts.items + length left ≤ 151;
      fits : told l.bytes ≡ l.bytes;
      inline : l.texts.capacity ≡ 151;
    }
