use Rattle.std.proofs.Common.{ap, sym, length, ◌∙◌, arith}
use Rattle.zed_cells.specs.Cells.{tiles_of}
use Rattle.zed_cells.proofs.Stamped.{tiles_of-with_stamps, length-with_stamps}
use Rattle.zed_cells.proofs.cells.Cells.table.Goals as goal

pub returns-clause-result : goal.returns-clause-result
returns-clause-result c =
    c.whole.ensures.result ∙ tiles_of-with_stamps c.self.inside.tiles c.self.inside.stamps.items (omega arith) ∙ ap tiles_of c.self.view_is

pub returns-clause-within : goal.returns-clause-within
returns-clause-within c =
    let e = length-with_stamps c.self.inside.tiles c.self.inside.stamps.items (omega arith) in
    ap length (sym c.self.view_is) ∙ e ∙ c.whole.ensures.within
