use Rattle.std.proofs.Common.{codes, [], ◌∷◌, ◌++◌}
use Rattle.std.proofs.lemmas.Result.{IfOk-weaker}
use Rattle.zed_log.specs.Fields.{name}
use Rattle.zed_log.specs.Line.{stat_fields}
use Rattle.zed_log.proofs.Pieces.{adds}
use Rattle.zed_log.proofs.put_op.put_stat.Goals as goal

pub returns : goal.returns
returns c =
    let named = adds _ _ _ (codes "add stat board ") (name c.args.board.name) c.in_ok-put_text.ensures c.in_ok-put_name.ensures in
    IfOk-weaker c.put_stat_fields.result _ _ (λ r h. adds _ _ _ (codes "add stat board " ++ name c.args.board.name) (32 ∷ stat_fields c.args.fields.now) named (adds _ _ _ (32 ∷ []) (stat_fields c.args.fields.now) c.in_ok-put_text-2.ensures h)) c.put_stat_fields.ensures
