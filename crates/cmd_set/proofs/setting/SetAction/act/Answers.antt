use Rattle.cmd_set.proofs.Granted.{does_wish, wishes_nothing}
use Rattle.cmd_set.proofs.setting.SetAction.act.Goals as goal

pub returns-in-Ok-clause-does : goal.returns-in-Ok-clause-does
returns-in-Ok-clause-does c =
    let d = c.args.document.now in
    does_wish c.args.self.now.replica c.in-Ok.wish _ (d.world, d.edits) c.granted.new.document.edits c.granted.result c.in-Ok.ensures c.granted.ensures.done

pub returns-in-Err-clause-does : goal.returns-in-Err-clause-does
returns-in-Err-clause-does c = wishes_nothing c.args.self.now.replica c.in-Err.bad _ c.in-Err.ensures c.requires.wanted
