use Rattle.std.proofs.Common.{codes}
use Rattle.std.proofs.lemmas.Result.{IfOk-weaker}
use Rattle.zed_log.specs.Fields.{name}
use Rattle.zed_log.proofs.Pieces.{adds}
use Rattle.zed_log.proofs.settings.put_current_board.Goals as goal

pub returns : goal.returns
returns c = IfOk-weaker c.put_name.result _ _ (λ r h. adds _ _ _ (codes "current board ") (name c.args.board.name) c.in_ok-put_text.ensures h) c.put_name.ensures
