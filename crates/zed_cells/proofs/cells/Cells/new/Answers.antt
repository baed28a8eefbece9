use Rattle.std.proofs.Common.{◌∙◌, ap, arith}
use Rattle.zed_cells.specs.Cells.{with_stamps}
use Rattle.zed_cells.proofs.Stamped.{with_stamps-alike}
use Rattle.zed_cells.proofs.cells.Cells.new.Goals as goal

pub returns : goal.returns
returns c =
    let made = c.in_ok-stamps.ensures in
    ap (with_stamps c.args.tiles) made ∙ with_stamps-alike c.args.tiles c.args.stamp 1500 (omega arith)
