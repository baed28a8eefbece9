use Rattle.std.proofs.Common.{◌∙◌, ap}
use Rattle.zed_edit.specs.Board.{new_table, set_cells, player_tile}
use Rattle.zed_edit.proofs.cells.new_table.Goals as goal

pub returns : goal.returns
unfolding new_table
returns c =
    c.set_cells-2.ensures ∙ ap (set_cells (record { left = 30; top = 12; right = 30; bottom = 12 }) player_tile) c.set_cells.ensures
