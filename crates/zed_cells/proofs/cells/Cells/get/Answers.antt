use Rattle.std.proofs.Common.{◌≡◌, ◌+◌, ◌-◌, ◌*◌, ◌∙◌, ap, length, Some, slice_index_or, arith}
use Rattle.std.proofs.lemmas.List.{length-map}
use Rattle.std.proofs.lemmas.Option.{slice_get-get_or}
use Rattle.zed_types.specs.declared.tile.Tile.{Tile}
use Rattle.zed_types.specs.Table.{index_of}
use Rattle.zed_cells.specs.Cells.{tiles_of}
use Rattle.zed_cells.proofs.cells.Cells.get.Goals as goal

pub returns : goal.returns
returns c =
    let d : Tile = record { element = 0; colour = 0 } in
    let tiles = tiles_of c.args.self.now in
    let size : length tiles ≡ length c.args.self.now = length-map c.args.self.now _ in
    let shown = slice_get-get_or tiles (index_of c.args.place) d (omega arith) in
    let same : slice_index_or tiles (index_of c.args.place) d ≡ slice_index_or c.table-tiles.result.now ((c.from-row.result - 1) * 60 + (c.from-column.result - 1)) d = cc in
    shown ∙ ap Some same
