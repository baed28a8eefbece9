use Rattle.std.proofs.Common.{◌≡◌, List, length, ap, ◌∙◌, arith}
use Rattle.std.specs.List.{flat_map}
use Rattle.zed_types.specs.declared.tile.Tile.{Tile}
use Rattle.zed_runs.specs.Runs.{greedy}
use Rattle.zed_world.specs.Writing.{stat_text}
use Rattle.zed_view.specs.View.{board_at}
use Rattle.zed_export.specs.World.{exported_board}
use Rattle.zed_export.specs.Limits.{told}
use Rattle.zed_world.proofs.Sizes.{length_body}
use Rattle.zed_export.proofs.size.body_bytes.Goals as goal

pub returns : goal.returns
returns c =
    let b = board_at c.args.view.now c.args.i in
    let x = exported_board c.args.view.now b in
    let whole = length_body x c.requires.name c.requires.message in
    let runs : c.runs_len-frame.result ≡ length (greedy b.tiles) =
    c.runs_len-frame.ensures.result ∙ ap (λ (ts : List Tile). length (greedy ts)) c.table.ensures in
    let stats : c.stats_bytes.result ≡ told (length (flat_map stat_text x.stats)) = c.stats_bytes.ensures in
    omega (arith, c.saturating_add.ensures)
