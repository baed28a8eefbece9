use Rattle.std.proofs.Common.{◌∙◌, ap, slice_index_or, arith}
use Rattle.zed_types.specs.declared.stamp.Stamp.{Stamp}
use Rattle.zed_types.specs.declared.tile.Tile.{Tile}
use Rattle.zed_types.specs.Register.{written_at}
use Rattle.zed_cells.specs.Writes.{later}
use Rattle.zed_cells.proofs.Stamped.{cell_set}
use Rattle.zed_cells.proofs.cells.set_cell.Goals as goal

pub returns-clause-cells : goal.returns-clause-cells
returns-clause-cells c =
    let nothing : Tile = record { element = 0; colour = 0 } in
    let tile = slice_index_or c.args.tiles.now c.args.i nothing in
    let write = written_at c.args.stamp c.args.tile in
    let kept = c.keep_later.ensures ∙ ap (λ (s : Stamp). later (written_at s tile) write) c.index.ensures in
    cell_set c.args.i c.args.tiles.now c.args.stamps.now.items write c.keep_later.new.kept nothing c.index.result.now (omega arith) (omega arith) kept
