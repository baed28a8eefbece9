use Rattle.std.proofs.Common.{refl, arith}
use Rattle.zed_types.specs.Elements.{rows, row_of}
use Rattle.zed_types.proofs.ElementRows.{is_row-at, index-past}
use Rattle.zed_types.proofs.elements.row_at.Goals as goal

pub returns-then-n-lt54 : goal.returns-then-n-lt54
returns-then-n-lt54 c =
    rw c.from.ensures (is_row-at c.args.table.now rows c.args.n _ _ c.requires (omega arith))

pub returns-else-n-lt54 : goal.returns-else-n-lt54
returns-else-n-lt54 c =
    rw (index-past rows c.args.n (row_of 54) c.if-n-lt54.false) (record { word = refl; character = refl; walkable = refl; push = refl; destructible = refl })
