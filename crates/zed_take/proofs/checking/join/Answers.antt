use Rattle.zed_take.proofs.Deliveries.{all_joined}
use Rattle.zed_take.proofs.checking.join.Goals as goal

pub returns-in-Ok-clause-edits : goal.returns-in-Ok-clause-edits
returns-in-Ok-clause-edits c = (all_joined c.args.document.now c.args.edits.items c.deliver_all.new.self.edits c.requires.sound c.requires.fit c.in-Ok.ensures.result).1

pub returns-in-Ok-clause-joins : goal.returns-in-Ok-clause-joins
returns-in-Ok-clause-joins c = (all_joined c.args.document.now c.args.edits.items c.deliver_all.new.self.edits c.requires.sound c.requires.fit c.in-Ok.ensures.result).0
