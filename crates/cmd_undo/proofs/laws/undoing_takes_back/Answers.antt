use Rattle.cmd_undo.proofs.TakenBack as steps
use Rattle.cmd_undo.proofs.laws.undoing_takes_back.Goals as goal

pub returns : goal.returns
returns c = steps.undoing_takes_back
