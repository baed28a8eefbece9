use Rattle.std.proofs.Common.{◌≡◌, ◌+◌, ◌-◌, ◌*◌, ◌∙◌, ap, arith}
use Rattle.zed_types.proofs.TableRows.{in_table}
use Rattle.zed_types.specs.Register.{written_at}
use Rattle.zed_cells.specs.Cells.{with_stamps, keep_where}
use Rattle.zed_cells.proofs.Rows.{between, set_cells-none, set_cells-more}
use Rattle.zed_cells.proofs.cells.set_rows.Goals as goal

pub loop-row-init : goal.loop-row-init
loop-row-init c = record {
  whole = omega arith;
  cells =
      let h = in_table c.args.cells c.requires.table in
      set_cells-none c.args.cells (c.from-row.result - 1) (written_at c.args.stamp c.args.tile) (with_stamps c.args.tiles.now c.args.stamps.now.items) (omega arith);
}

pub loop-row-preserved : goal.loop-row-preserved
loop-row-preserved c = record {
  whole = c.set_row.ensures.whole;
  cells =
      let h = in_table c.args.cells c.requires.table in
      let w = written_at c.args.stamp c.args.tile in
      c.set_row.ensures.cells
      ∙ ap (keep_where (between (c.loop-row.row * 60 + (c.from-left.result - 1)) (c.loop-row.row * 60 + c.from-right.result)) w) c.loop-row.invariant.cells
      ∙ set_cells-more c.args.cells c.loop-row.row (c.loop-row.row * 60 + (c.from-left.result - 1)) (c.loop-row.row * 60 + c.from-right.result) w (with_stamps c.args.tiles.now c.args.stamps.now.items) (omega arith) (omega arith) (omega arith) (omega arith) (omega arith) (omega arith);
}

pub returns-clause-cells : goal.returns-clause-cells
returns-clause-cells c =
    let h = in_table c.args.cells c.requires.table in
    let last : c.loop-row.row ≡ c.args.cells.bottom = omega arith in
    rw last at c.loop-row.invariant.cells
