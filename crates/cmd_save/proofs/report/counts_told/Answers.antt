use Rattle.std.proofs.lemmas.Result.{IfOk-weaker}
use Rattle.cmd_save.proofs.report.counts_told.Goals as goal

pub returns : goal.returns
returns c = IfOk-weaker c.format.result _ _ (λ r h. h) c.format.ensures.ok
