use Rattle.std.proofs.Common.{◌≡◌, ◌∙◌, ap, eqb, arith}
use Rattle.zed_types.specs.Register.{written_at}
use Rattle.zed_cells.specs.Cells.{with_stamps, keep_where}
use Rattle.zed_cells.proofs.Rows.{between, row-none, row-more}
use Rattle.zed_cells.proofs.cells.set_row.Goals as goal

pub loop-i-init : goal.loop-i-init
loop-i-init c = record {
  order = omega arith;
  whole = omega arith;
  cells = row-none c.args.from (written_at c.args.stamp c.args.tile) (with_stamps c.args.tiles.now c.args.stamps.now.items);
}

pub loop-i-preserved : goal.loop-i-preserved
loop-i-preserved c = record {
  order = omega arith;
  whole = c.set_cell.ensures.whole;
  cells =
      let w = written_at c.args.stamp c.args.tile in
      c.set_cell.ensures.cells
      ∙ ap (keep_where (λ k. eqb k c.loop-i.i) w) c.loop-i.invariant.cells
      ∙ row-more c.args.from c.loop-i.i w (with_stamps c.args.tiles.now c.args.stamps.now.items) (omega arith);
}

pub returns-clause-cells : goal.returns-clause-cells
returns-clause-cells c =
    let last : c.loop-i.i ≡ c.args.to = omega arith in
    c.loop-i.invariant.cells ∙ ap (λ i. keep_where (between c.args.from i) (written_at c.args.stamp c.args.tile) (with_stamps c.args.tiles.now c.args.stamps.now.items)) last
