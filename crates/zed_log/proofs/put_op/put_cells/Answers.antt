use Rattle.std.proofs.Common.{codes, [], ◌∷◌, ◌++◌}
use Rattle.std.proofs.lemmas.Result.{IfOk-weaker}
use Rattle.zed_log.specs.Fields.{name, rectangle, tile}
use Rattle.zed_log.proofs.Pieces.{adds}
use Rattle.zed_log.proofs.put_op.put_cells.Goals as goal

pub returns : goal.returns
returns c =
    let named = adds _ _ _ (codes "cells board ") (name c.args.board.name) c.in_ok-put_text.ensures c.in_ok-put_name.ensures in
    let cells = adds _ _ _ (32 ∷ []) (rectangle c.args.cells) c.in_ok-put_text-2.ensures c.in_ok-put_rectangle.ensures in
    let front = adds _ _ _ (codes "cells board " ++ name c.args.board.name) (32 ∷ rectangle c.args.cells) named cells in
    IfOk-weaker c.put_tile.result _ _ (λ r h. adds _ _ _ (codes "cells board " ++ name c.args.board.name ++ 32 ∷ rectangle c.args.cells) (32 ∷ tile c.args.tile) front (adds _ _ _ (32 ∷ []) (tile c.args.tile) c.in_ok-put_text-3.ensures h)) c.put_tile.ensures
