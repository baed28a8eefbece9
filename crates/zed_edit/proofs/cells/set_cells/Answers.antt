use Rattle.std.proofs.Common.{◌≡◌, ◌-◌, ◌+◌, ◌*◌, ◌∙◌, arith}
use Rattle.zed_types.proofs.TableRows.{in_table}
use Rattle.zed_edit.proofs.Rows.{set_cells-none, set_cells-more}
use Rattle.zed_edit.proofs.cells.set_cells.Goals as goal

pub loop-row-init : goal.loop-row-init
loop-row-init c =
    let h = in_table c.args.r c.requires in
    set_cells-none c.args.r (c.from-row.result - 1) c.args.tile c.args.tiles.now (omega arith)

pub loop-row-preserved : goal.loop-row-preserved
loop-row-preserved c =
    let h = in_table c.args.r c.requires in
    c.fill_row.ensures
    ∙ rw (c.loop-row.invariant) (set_cells-more c.args.r c.loop-row.row (c.loop-row.row * 60 + (c.from-left.result - 1)) (c.loop-row.row * 60 + c.from-right.result) c.args.tile c.args.tiles.now (omega arith) (omega arith) (omega arith) (omega arith) (omega arith) (omega arith) (omega arith) (omega arith))

pub returns : goal.returns
returns c =
    let h = in_table c.args.r c.requires in
    let last : c.loop-row.row ≡ c.args.r.bottom = omega arith in
    rw last at c.loop-row.invariant
