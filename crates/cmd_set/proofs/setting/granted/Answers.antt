use Rattle.std.proofs.Common.{Err, ap}
use Rattle.cmd_set.proofs.Granted.{wish_done, wish_refused}
use Rattle.cmd_set.proofs.setting.granted.Goals as goal

pub returns-in-Ok-clause-done : goal.returns-in-Ok-clause-done
returns-in-Ok-clause-done c =
    wish_done c.args.replica c.args.wish c.args.document.now c.grant.new.document.edits c.requires c.in-Ok.ensures.ends

pub returns-in-Err-clause-done : goal.returns-in-Err-clause-done
returns-in-Err-clause-done c =
    wish_refused c.args.replica c.args.wish c.args.document.now c.in-Err.error c.set_stop.result c.requires c.set_stop.ensures c.in-Err.ensures.ends
    (λ is. c.in-Err.ensures.memory_only_when (ap (λ x. Err x) is))
