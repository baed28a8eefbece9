use Rattle.zed_take.proofs.Deliveries.{all_joined}
use Rattle.zed_undo.proofs.undoing.join.Goals as goal

pub returns-in-Ok : goal.returns-in-Ok
returns-in-Ok c = (all_joined c.args.document.now c.args.edits.items c.deliver_all.new.self.edits c.requires.sound c.requires.fit c.in-Ok.ensures.result).1
